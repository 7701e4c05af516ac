-- Each statement has one list of words.
use Rattle.std.proofs.Common.{not, nat_lt, ◌+◌, ◌&&◌, rules, ◌/◌, ◌%◌, ◌≡◌, ℕ, ◌<◌, ◌≤◌, ◌^◌, Bool, true, false, cond, codes, List, [], ◌∷◌, Option, Some, None, refl, sym, ◌∙◌, ap, subst, arith}
use Rattle.std.specs.Fmt.{decimal, digit_glyph}
use Rattle.std.specs.Option.{option_map, option_and_then}
use Rattle.std.specs.Str.{bytes_eq}
use Rattle.std.proofs.lemmas.Slice.Eq.{bytes_eq-Decides}
use Rattle.std.specs.Prelude.{◌==◌}
use Rattle.std.specs.Char.{is_ascii_digit}
use Rattle.std.specs.List.{list_all, join_with_byte, AllByRecursion}
use Rattle.std.proofs.lemmas.Fmt.{digits_decimal}
use Rattle.std.proofs.lemmas.Grind.{common_steps}
use Rattle.std.proofs.lemmas.List.Elements.{All-from_recursion}
use Rattle.std.proofs.lemmas.List.Splits.{slice_split_none, slice_split_at, join_with_byte-slice_split}
use Rattle.uda_grammar.specs.Parts.{words_of}
use Rattle.uda_grammar.specs.declared.verb.Verb.{Verb}
use Rattle.uda_grammar.specs.declared.verb.Verb.TheVariants as verb
use Rattle.uda_grammar.specs.declared.transfer.TransferNumbers.{TransferNumbers}
use Rattle.uda_grammar.specs.declared.statement.Statement.{Statement}
use Rattle.uda_grammar.specs.declared.statement.Statement.TheVariants as form
use Rattle.uda_grammar.specs.Words.{verb_of, most_number, number_of, unit_named, byte_of}
use Rattle.uda_grammar.specs.declared.statement.Measure.TheVariants.{Blocks, Bytes}
use Rattle.uda_grammar.specs.declared.statement.Amount.TheVariants as amount
use Rattle.uda_grammar.specs.Amounts.{most_written}
use Rattle.uda_grammar.specs.Forms.{with_numbers, with_byte, only_unit, transfer_form, online_of, fill_of, statement_behind, statement_of}
use Rattle.uda_grammar.specs.Texts.{two_digits, transfer_words, words_in, statement_text, IsTransfer, Fits, StatementTextIsUnique}
use Rattle.uda_grammar.proofs.WordLaws.{own, Told-number_of, number_of-decimal, byte_of-two_digits, two_digits-byte_of}

-- the word of a verb
abbrev name_of : Verb → List ℕ
name_of verb.Online = codes "online"
name_of verb.Available = codes "available"
name_of verb.Status = codes "status"
name_of (verb.Read Blocks) = codes "read"
name_of (verb.Read Bytes) = codes "readb"
name_of (verb.Access Blocks) = codes "access"
name_of (verb.Access Bytes) = codes "accessb"
name_of (verb.Erase Blocks) = codes "erase"
name_of (verb.Erase Bytes) = codes "eraseb"
name_of (verb.Write Blocks) = codes "write"
name_of (verb.Write Bytes) = codes "writeb"
name_of verb.Fill = codes "fill"

-- one test of a chain of them
step : (word : List ℕ) (this v : Verb) (others : Option Verb) → (others ≡ Some v → word ≡ name_of v)
    → cond (bytes_eq word (name_of this)) (Some this) others ≡ Some v → word ≡ name_of v
step word this v others later = tested (bytes_eq word (name_of this)) refl
  where
    tested : (b : Bool) → bytes_eq word (name_of this) ≡ b → cond b (Some this) others ≡ Some v
        → word ≡ name_of v
    tested true is e =
        let same : this ≡ v = cc in
        (bytes_eq-Decides word (name_of this)).0 is ∙ ap name_of same
    tested false is e = later e

name-verb_of : (word : List ℕ) (v : Verb) → verb_of word ≡ Some v → word ≡ name_of v
name-verb_of word v =
    step word verb.Online v _
    (step word verb.Available v _
    (step word verb.Status v _
    (step word (verb.Read Blocks) v _
    (step word (verb.Read Bytes) v _
    (step word (verb.Access Blocks) v _
    (step word (verb.Access Bytes) v _
    (step word (verb.Erase Blocks) v _
    (step word (verb.Erase Bytes) v _
    (step word (verb.Write Blocks) v _
    (step word (verb.Write Bytes) v _
    (step word verb.Fill v None (λ e. absurd (cc)))))))))))))

-- the value of an option after a function was applied to it
mapped : {T U : Type 0} (f : T → U) (o : Option T) (y : U) → option_map f o ≡ Some y
    → (x : T) × (o ≡ Some x) × (f x ≡ y)
mapped f None y e = absurd (cc)
mapped f (Some x) y e = (x, refl, cc)

chained : {T U : Type 0} (f : T → Option U) (o : Option T) (y : U) → option_and_then f o ≡ Some y
    → (x : T) × (o ≡ Some x) × (f x ≡ Some y)
chained f None y e = absurd (cc)
chained f (Some x) y e = (x, refl, e)

-- ---- from words to what they ask for

abbrev unit_words : ℕ → List (List ℕ)
unit_words unit = decimal unit ∷ []

only_unit-told : (words : List (List ℕ)) (unit : ℕ) → only_unit words ≡ Some unit
    → (unit ≤ 65535) × (words ≡ unit_words unit)
only_unit-told [] unit e = absurd (cc)
only_unit-told (u ∷ []) unit e =
    let t = Told-number_of 65535 unit u (omega arith) e in
    (t.fits, ap (λ w. w ∷ []) t.printed)
only_unit-told (u ∷ next ∷ rest) unit e = absurd (cc)

three : (u l n v m k : List ℕ) → u ≡ v → l ≡ m → n ≡ k → ◌≡◌ {A = List (List ℕ)} (u ∷ l ∷ n ∷ [])
    (v ∷ m ∷ k ∷ [])
three u l n v m k p q r = cc

numbers-told : (a b c : Option ℕ) (t : TransferNumbers) → with_numbers a b c ≡ Some t
    → (a ≡ Some t.unit) × (b ≡ Some t.lbn) × (c ≡ Some t.count)
numbers-told None b c t e = absurd (cc)
numbers-told (Some unit) None c t e = absurd (cc)
numbers-told (Some unit) (Some lbn) None t e = absurd (cc)
numbers-told (Some unit) (Some lbn) (Some count) t e =
    let made : TransferNumbers = record { unit = unit; lbn = lbn; count = count } in
    let same : made ≡ t = cc in
    (ap (λ x. Some x.unit) same, ap (λ x. Some x.lbn) same, ap (λ x. Some x.count) same)

transfer_form-told : (most : ℕ) → most < 2 ^ 64 → (words : List (List ℕ)) (t : TransferNumbers)
    → transfer_form most words ≡ Some t → IsTransfer most t.unit t.lbn t.count
    × (words ≡ transfer_words t.unit t.lbn t.count)
transfer_form-told most small [] t e = absurd (cc)
transfer_form-told most small (u ∷ []) t e = absurd (cc)
transfer_form-told most small (u ∷ l ∷ []) t e = absurd (cc)
transfer_form-told most small (u ∷ l ∷ n ∷ []) t e =
    let all = numbers-told (unit_named u) (number_of most_number l) (number_of most n) t e in
    let unit = Told-number_of 65535 t.unit u (omega arith) all.0 in
    let lbn = Told-number_of most_number t.lbn l (omega arith) all.1 in
    let count = Told-number_of most t.count n small all.2 in (
      record { unit_fits = unit.fits; lbn_fits = lbn.fits; count_fits = count.fits },
      three u l n _ _ _ unit.printed lbn.printed count.printed,
    )
transfer_form-told most small (u ∷ l ∷ n ∷ next ∷ rest) t e = absurd (cc)

-- words that are those of a statement
abbrev Reads : List (List ℕ) → Statement → Type 0
Reads words statement = Fits statement × (words ≡ words_in statement)

transfer-told : (most : ℕ) (small : most < 2 ^ 64) (name : List ℕ) (make : TransferNumbers → Statement)
    → ((t : TransferNumbers) → IsTransfer most t.unit t.lbn t.count
    → Reads (name ∷ transfer_words t.unit t.lbn t.count) (make t)) → (words : List (List ℕ)) (s : Statement)
    → option_map make (transfer_form most words) ≡ Some s → Reads (name ∷ words) s
transfer-told most small name make reads words s e =
    let m = mapped make (transfer_form most words) s e in
    let t = transfer_form-told most small words m.0 m.1 in
    subst (λ ws. Reads (name ∷ ws) s) (sym t.1)
    (subst (λ made. Reads (name ∷ transfer_words m.0.unit m.0.lbn m.0.count) made) m.2 (reads m.0 t.0))

unit-told : (name : List ℕ) (make : ℕ → Statement)
    → ((unit : ℕ) → unit ≤ 65535 → Reads (name ∷ unit_words unit) (make unit))
    → (words : List (List ℕ)) (s : Statement) → option_map make (only_unit words) ≡ Some s
    → Reads (name ∷ words) s
unit-told name make reads words s e =
    let m = mapped make (only_unit words) s e in
    let t = only_unit-told words m.0 m.1 in
    subst (λ ws. Reads (name ∷ ws) s) (sym t.1)
    (subst (λ made. Reads (name ∷ unit_words m.0) made) m.2 (reads m.0 t.0))

online-told : (words : List (List ℕ)) (s : Statement) → online_of words ≡ Some s
    → Reads (codes "online" ∷ words) s
online-told [] s e = absurd (cc)
online-told (u ∷ []) s e = unit-told (codes "online") (λ unit. form.Online unit false)
    (λ unit fits. (fits, refl)) (u ∷ []) s e
online-told (u ∷ word ∷ []) s e = tested (bytes_eq word (codes "protect")) refl e
  where
    tested : (b : Bool) → bytes_eq word (codes "protect") ≡ b
        → cond b (option_map (λ unit. form.Online unit true) (unit_named u)) None ≡ Some s
        → Reads (codes "online" ∷ u ∷ word ∷ []) s
    tested true is f =
        let m = mapped (λ unit. form.Online unit true) (unit_named u) s f in
        let t = Told-number_of 65535 m.0 u (omega arith) m.1 in
        let word_is = (bytes_eq-Decides word (codes "protect")).0 is in
        subst (λ made. Reads (codes "online" ∷ u ∷ word ∷ []) made) m.2
        (t.fits, three (codes "online") u word _ _ _ refl t.printed word_is)
    tested false is f = absurd (cc)
online-told (u ∷ word ∷ next ∷ rest) s e = absurd (cc)

byte-told : (a : Option TransferNumbers) (b : Option ℕ) (s : Statement) → with_byte a b ≡ Some s
    → (t : TransferNumbers) × (byte : ℕ) × (a ≡ Some t) × (b ≡ Some byte)
    × (form.Fill t.unit t.lbn t.count byte ≡ s)
byte-told None b s e = absurd (cc)
byte-told (Some t) None s e = absurd (cc)
byte-told (Some t) (Some byte) s e = (t, byte, refl, refl, cc)

fill-told : (words : List (List ℕ)) (s : Statement) → fill_of words ≡ Some s → Reads (codes "fill" ∷ words) s
fill-told [] s e = absurd (cc)
fill-told (u ∷ []) s e = absurd (cc)
fill-told (u ∷ l ∷ []) s e = absurd (cc)
fill-told (u ∷ l ∷ n ∷ []) s e = absurd (cc)
fill-told (u ∷ l ∷ n ∷ x ∷ []) s e =
    let a = byte-told (transfer_form (most_written Blocks) (u ∷ l ∷ n ∷ [])) (byte_of x) s e in
    let t = transfer_form-told (most_written Blocks) (omega arith) (u ∷ l ∷ n ∷ []) a.0 a.2 in
    let byte = two_digits-byte_of x a.1 a.3 in
    subst (λ made. Reads (codes "fill" ∷ u ∷ l ∷ n ∷ x ∷ []) made) a.4
    ((t.0, byte.0), five u l n x _ _ _ _ t.1 byte.1)
  where
    five : (u l n x v m k y : List ℕ) → ◌≡◌ {A = List (List ℕ)} (u ∷ l ∷ n ∷ []) (v ∷ m ∷ k ∷ []) → x ≡ y
        → ◌≡◌ {A = List (List ℕ)} (codes "fill" ∷ u ∷ l ∷ n ∷ x ∷ []) (codes "fill" ∷ v ∷ m ∷ k ∷ y ∷ [])
    five u l n x v m k y p q = cc
fill-told (u ∷ l ∷ n ∷ x ∷ next ∷ rest) s e = absurd (cc)

behind-told : (v : Verb) (words : List (List ℕ)) (s : Statement) → statement_behind v words ≡ Some s
    → Reads (name_of v ∷ words) s
behind-told verb.Online words s e = online-told words s e
behind-told verb.Available words s e = unit-told (codes "available") (λ unit. form.Available unit)
    (λ unit fits. (fits, refl)) words s e
behind-told verb.Status words s e = unit-told (codes "status") (λ unit. form.Status unit)
    (λ unit fits. (fits, refl)) words s e
behind-told (verb.Read Blocks) words s e = transfer-told most_number (omega arith) (codes "read")
    (λ t. form.Read t.unit t.lbn (amount.Blocks t.count)) (λ t fits. (fits, refl)) words s e
behind-told (verb.Read Bytes) words s e = transfer-told most_number (omega arith) (codes "readb")
    (λ t. form.Read t.unit t.lbn (amount.Bytes t.count)) (λ t fits. (fits, refl)) words s e
behind-told (verb.Access Blocks) words s e = transfer-told most_number (omega arith) (codes "access")
    (λ t. form.Access t.unit t.lbn (amount.Blocks t.count)) (λ t fits. (fits, refl)) words s e
behind-told (verb.Access Bytes) words s e = transfer-told most_number (omega arith) (codes "accessb")
    (λ t. form.Access t.unit t.lbn (amount.Bytes t.count)) (λ t fits. (fits, refl)) words s e
behind-told (verb.Erase Blocks) words s e = transfer-told most_number (omega arith) (codes "erase")
    (λ t. form.Erase t.unit t.lbn (amount.Blocks t.count)) (λ t fits. (fits, refl)) words s e
behind-told (verb.Erase Bytes) words s e = transfer-told most_number (omega arith) (codes "eraseb")
    (λ t. form.Erase t.unit t.lbn (amount.Bytes t.count)) (λ t fits. (fits, refl)) words s e
behind-told (verb.Write Blocks) words s e = transfer-told (most_written Blocks) (omega arith) (codes "write")
    (λ t. form.Write t.unit t.lbn (amount.Blocks t.count)) (λ t fits. (fits, refl)) words s e
behind-told (verb.Write Bytes) words s e = transfer-told (most_written Bytes) (omega arith) (codes "writeb")
    (λ t. form.Write t.unit t.lbn (amount.Bytes t.count)) (λ t fits. (fits, refl)) words s e
behind-told verb.Fill words s e = fill-told words s e

told : (words : List (List ℕ)) (s : Statement) → statement_of words ≡ Some s → Reads words s
told [] s e = absurd (cc)
told (word ∷ words) s e =
    let a = chained (λ v. statement_behind v words) (verb_of word) s e in
    subst (λ w. Reads (w ∷ words) s) (sym (name-verb_of word a.0 a.1)) (behind-told a.0 words s a.2)

-- ---- and back

abbrev made_of : ℕ → ℕ → ℕ → TransferNumbers
made_of unit lbn count = record { unit = unit; lbn = lbn; count = count }

transfer_form-words : (most u l n : ℕ) → most < 2 ^ 64 → IsTransfer most u l n
    → transfer_form most (transfer_words u l n) ≡ Some (made_of u l n)
transfer_form-words most u l n small fits =
    joined (number_of 65535 (decimal u)) (number_of most_number (decimal l)) (number_of most (decimal n))
    (number_of-decimal 65535 u (omega arith) fits.unit_fits)
    (number_of-decimal most_number l (omega arith) fits.lbn_fits)
    (number_of-decimal most n small fits.count_fits)
  where
    joined : (a b c : Option ℕ) → a ≡ Some u → b ≡ Some l → c ≡ Some n → with_numbers a b c
        ≡ Some (made_of u l n)
    joined a b c p q r = rw (p, q, r) refl

reread : (s : Statement) → Fits s → statement_of (words_in s) ≡ Some s
reread (form.Online unit false) fits = ap (option_map (λ n. form.Online n false))
    (number_of-decimal 65535 unit (omega arith) fits)
reread (form.Online unit true) fits = ap (option_map (λ n. form.Online n true))
    (number_of-decimal 65535 unit (omega arith) fits)
reread (form.Available unit) fits = ap (option_map (λ n. form.Available n))
    (number_of-decimal 65535 unit (omega arith) fits)
reread (form.Status unit) fits = ap (option_map (λ n. form.Status n))
    (number_of-decimal 65535 unit (omega arith) fits)
reread (form.Read u l (amount.Blocks n)) fits =
    ap (option_map (λ t. form.Read t.unit t.lbn (amount.Blocks t.count)))
    (transfer_form-words most_number u l n (omega arith) fits)
reread (form.Read u l (amount.Bytes n)) fits =
    ap (option_map (λ t. form.Read t.unit t.lbn (amount.Bytes t.count)))
    (transfer_form-words most_number u l n (omega arith) fits)
reread (form.Access u l (amount.Blocks n)) fits =
    ap (option_map (λ t. form.Access t.unit t.lbn (amount.Blocks t.count)))
    (transfer_form-words most_number u l n (omega arith) fits)
reread (form.Access u l (amount.Bytes n)) fits =
    ap (option_map (λ t. form.Access t.unit t.lbn (amount.Bytes t.count)))
    (transfer_form-words most_number u l n (omega arith) fits)
reread (form.Erase u l (amount.Blocks n)) fits =
    ap (option_map (λ t. form.Erase t.unit t.lbn (amount.Blocks t.count)))
    (transfer_form-words most_number u l n (omega arith) fits)
reread (form.Erase u l (amount.Bytes n)) fits =
    ap (option_map (λ t. form.Erase t.unit t.lbn (amount.Bytes t.count)))
    (transfer_form-words most_number u l n (omega arith) fits)
reread (form.Write u l (amount.Blocks n)) fits =
    ap (option_map (λ t. form.Write t.unit t.lbn (amount.Blocks t.count)))
    (transfer_form-words (most_written Blocks) u l n (omega arith) fits)
reread (form.Write u l (amount.Bytes n)) fits =
    ap (option_map (λ t. form.Write t.unit t.lbn (amount.Bytes t.count)))
    (transfer_form-words (most_written Bytes) u l n (omega arith) fits)
reread (form.Fill u l n byte) fits =
    ap (λ t. with_byte t (byte_of (two_digits byte)))
    (transfer_form-words (most_written Blocks) u l n (omega arith) fits.0)
    ∙ ap (with_byte (Some (made_of u l n))) (byte_of-two_digits byte fits.1)

-- ---- the words of a line

abbrev is_no_space : ℕ → Bool
is_no_space byte = not (byte == 32)

abbrev HasNoSpace : List ℕ → Type 0
HasNoSpace word = list_all is_no_space word ≡ true

abbrev HaveNoSpaces : List (List ℕ) → Type 0
HaveNoSpaces [] = Unit {0}
HaveNoSpaces (word ∷ words) = HasNoSpace word × HaveNoSpaces words

passes : (a b : Bool) → (a && b) ≡ true → (a ≡ true) × (b ≡ true)
passes true b e = (refl, e)
passes false b e = absurd (cc)

refuted : (a : Bool) → not a ≡ true → a ≡ false
refuted true e = absurd (cc)
refuted false e = refl

each : (word : List ℕ) → HasNoSpace word → AllByRecursion (λ byte. (byte == 32) ≡ false) word
each [] h = search rules
each (byte ∷ rest) h =
    let a = passes (is_no_space byte) (list_all is_no_space rest) h in
    (refuted (byte == 32) a.0, each rest a.1)

words_of-joined : (word : List ℕ) (words : List (List ℕ)) → HasNoSpace word → HaveNoSpaces words
    → words_of (join_with_byte 32 (word ∷ words)) ≡ word ∷ words
words_of-joined word [] h hs = slice_split_none (λ byte. byte == 32) word
    (All-from_recursion _ word (each word h))
words_of-joined word (next ∷ rest) h hs =
    slice_split_at (λ byte. byte == 32) word 32 (join_with_byte 32 (next ∷ rest))
    (All-from_recursion _ word (each word h)) refl
    ∙ ap (λ ws. word ∷ ws) (words_of-joined next rest hs.0 hs.1)

digits_have_no_space : (word : List ℕ) → list_all is_ascii_digit word ≡ true → HasNoSpace word
digits_have_no_space [] h = refl
digits_have_no_space (digit ∷ rest) h =
    let a = passes (is_ascii_digit digit) (list_all is_ascii_digit rest) h in
    joined digit (list_all is_no_space rest) a.0 (digits_have_no_space rest a.1)
  where
    joined : (digit : ℕ) (rest : Bool) → is_ascii_digit digit ≡ true → rest ≡ true
        → (is_no_space digit && rest) ≡ true
    joined digit rest h e = grind (arith, common_steps)

number : (most n : ℕ) → most < 2 ^ 64 → n ≤ most → HasNoSpace (decimal n)
number most n small fits = digits_have_no_space (decimal n) (digits_decimal own n (omega arith))

glyph : (n : ℕ) → is_no_space (digit_glyph false n) ≡ true
glyph n = tested (nat_lt n 10)
  where
    tested : (b : Bool) → is_no_space (cond b (48 + n) (87 + n)) ≡ true
    tested true = grind (arith, common_steps)
    tested false = grind (arith, common_steps)

two_digits_have_no_space : (byte : ℕ) → HasNoSpace (two_digits byte)
two_digits_have_no_space byte = rw (glyph (byte / 16), glyph (byte % 16)) refl

of_transfer : (most u l n : ℕ) → most < 2 ^ 64 → IsTransfer most u l n
    → HaveNoSpaces (decimal u ∷ decimal l ∷ decimal n ∷ [])
of_transfer most u l n small fits = (
  number 65535 u (omega arith) fits.unit_fits,
  (number most_number l (omega arith) fits.lbn_fits, (number most n small fits.count_fits, tt)),
)

words_of-statement_text : (s : Statement) → Fits s → words_of (statement_text s) ≡ words_in s
words_of-statement_text (form.Online unit false) fits = words_of-joined _ _ refl
    (number 65535 unit (omega arith) fits, tt)
words_of-statement_text (form.Online unit true) fits = words_of-joined _ _ refl
    (number 65535 unit (omega arith) fits, (refl, tt))
words_of-statement_text (form.Available unit) fits = words_of-joined _ _ refl
    (number 65535 unit (omega arith) fits, tt)
words_of-statement_text (form.Status unit) fits = words_of-joined _ _ refl
    (number 65535 unit (omega arith) fits, tt)
words_of-statement_text (form.Read u l (amount.Blocks n)) fits = words_of-joined _ _ refl
    (of_transfer most_number u l n (omega arith) fits)
words_of-statement_text (form.Read u l (amount.Bytes n)) fits = words_of-joined _ _ refl
    (of_transfer most_number u l n (omega arith) fits)
words_of-statement_text (form.Access u l (amount.Blocks n)) fits = words_of-joined _ _ refl
    (of_transfer most_number u l n (omega arith) fits)
words_of-statement_text (form.Access u l (amount.Bytes n)) fits = words_of-joined _ _ refl
    (of_transfer most_number u l n (omega arith) fits)
words_of-statement_text (form.Erase u l (amount.Blocks n)) fits = words_of-joined _ _ refl
    (of_transfer most_number u l n (omega arith) fits)
words_of-statement_text (form.Erase u l (amount.Bytes n)) fits = words_of-joined _ _ refl
    (of_transfer most_number u l n (omega arith) fits)
words_of-statement_text (form.Write u l (amount.Blocks n)) fits = words_of-joined _ _ refl
    (of_transfer (most_written Blocks) u l n (omega arith) fits)
words_of-statement_text (form.Write u l (amount.Bytes n)) fits = words_of-joined _ _ refl
    (of_transfer (most_written Bytes) u l n (omega arith) fits)
words_of-statement_text (form.Fill u l n byte) fits =
    let h = of_transfer (most_written Blocks) u l n (omega arith) fits.0 in
    words_of-joined _ _ refl (h.0, (h.1.0, (h.1.1.0, (two_digits_have_no_space byte, tt))))

pub statement_text_is_unique : StatementTextIsUnique
statement_text_is_unique line s = (
  λ e. let reads = told (words_of line) s e in
      (reads.0, sym (join_with_byte-slice_split 32 line) ∙ ap (join_with_byte 32) reads.1),
  λ reads.
      subst (λ l. statement_of (words_of l) ≡ Some s) (sym reads.1)
      (subst (λ ws. statement_of ws ≡ Some s) (sym (words_of-statement_text s reads.0)) (reread s reads.0)),
)
