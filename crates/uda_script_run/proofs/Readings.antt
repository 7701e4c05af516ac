-- What is made of data that is read piece by piece.
use Rattle.std.proofs.Common.{◌≡◌, ℕ, suc, ◌+◌, ◌-◌, ◌<◌, ◌≤◌, List, [], ◌∷◌, ◌++◌, arith, length, drop, get_or, refl, sym, ap, ◌∙◌, append_assoc, append-nil, length-append, drop-cons, add-one}
use Rattle.std.specs.Prelude.{Option, None, Some, nat_lt, if◌then◌else◌, true, false, Bool}
use Rattle.std.proofs.lemmas.List.{take_at, drop_at}
use Rattle.std.proofs.lemmas.List.Sums.{sum_by-cons}
use Rattle.std.proofs.Math.ListN.{drop_of_length-le}
use Rattle.std.proofs.lemmas.Bool.Decides.{nat_tests}
use Rattle.std.specs.Io.KnownBytes.{Consumes}
use Rattle.std.proofs.KnownBytes.{Consumes-nil, Consumes-trans}
use Rattle.uda_grammar.specs.declared.error.ScriptError.{ScriptError}
use Rattle.uda_grammar.specs.declared.error.ScriptError.TheVariants.{NoMemory, Syntax, TooManyLines, ShortData, Read, Write}
use Rattle.uda_grammar.specs.declared.script.Line.{Line}
use Rattle.uda_disk.specs.Request.{Request}
use Rattle.uda_script_run.specs.Requests.{bytes_taken, taken, request_made, requests, first_short}
use Rattle.uda_script_run.specs.Reading.{ReadsAs, ReadsBytes, ReadsRequest, ReadsRequests, IsUnread, AreUnread}

-- this many bytes were read; f makes these items of them, and `rest` makes the others of the bytes that
-- follow
pub record ReadsPart {A : Type 0} (f rest : List ℕ → List A) (count : ℕ) (left now : Option (List ℕ))
    (made : List A) : Type 0 where
  pub bytes : List ℕ
  pub counted : length bytes ≡ count
  pub consumed : Consumes left now bytes
  pub is_made : (later : List ℕ) → f (bytes ++ later) ≡ made ++ rest later

-- nothing was read yet
pub reads_none : {A : Type 0} (f : List ℕ → List A) (left : Option (List ℕ)) → ReadsPart f f 0 left left []
reads_none f left = record {
  bytes = [];
  counted = refl;
  consumed = Consumes-nil left;
  is_made = λ later.
      refl;
}

-- one piece more, of which one item is made
pub reads_more : {A : Type 0} (f rest next : List ℕ → List A) (n m k : ℕ) (left now after : Option (List ℕ))
    (made : List A) (item : A) (piece : List ℕ)
    → ReadsPart f rest n left now made → length piece ≡ m → Consumes now after piece
    → ((later : List ℕ) → rest (piece ++ later) ≡ item ∷ next later) → n + m ≡ k
    → ReadsPart f next k left after (made ++ item ∷ [])
reads_more {A} f rest next n m k left now after made item piece so_far size read makes total = record {
  bytes = so_far.bytes ++ piece;
  counted = length-append so_far.bytes piece ∙ omega (arith, so_far.counted, size, total);
  consumed = Consumes-trans left now after so_far.bytes piece so_far.consumed read;
  is_made = λ later.
      ap f (append_assoc so_far.bytes piece later)
      ∙ so_far.is_made (piece ++ later)
      ∙ ap (λ (t : List A). made ++ t) (makes later)
      ∙ sym (append_assoc made (item ∷ []) (next later));
}

-- what needs no data is made whatever follows
pub reads_nothing : {A : Type 0} (f : List ℕ → A) (left : Option (List ℕ)) (made : A)
    → ((later : List ℕ) → f later ≡ made) → ReadsAs f 0 left left made
reads_nothing f left made is = record {
  bytes = [];
  counted = refl;
  consumed = Consumes-nil left;
  is_made = is;
}

-- nothing is left to make
pub reads_whole : {A : Type 0} (f rest : List ℕ → List A) (n k : ℕ) (left now : Option (List ℕ))
    (made : List A) → ReadsPart f rest n left now made → n ≡ k → ((later : List ℕ) → rest later ≡ [])
    → ReadsAs f k left now made
reads_whole {A} f rest n k left now made so_far size done = record {
  bytes = so_far.bytes;
  counted = so_far.counted ∙ size;
  consumed = so_far.consumed;
  is_made = λ later. so_far.is_made later ∙ ap (λ (t : List A). made ++ t) (done later) ∙ append-nil made;
}

-- bytes that were read, whatever follows them
pub reads_bytes : (count : ℕ) (bytes : List ℕ) (left now : Option (List ℕ)) → length bytes ≡ count
    → Consumes left now bytes → ReadsBytes count left now bytes
reads_bytes count bytes left now size read =
    record {
      bytes = bytes;
      counted = size;
      consumed = read;
      is_made = λ later.
          take_at bytes later count size;
    }

-- ---- errors

-- data that is too short for a piece is too short for the whole
pub unread_whole : (wanted whole read : ℕ) (line : Line) (bytes : List ℕ) (left now : Option (List ℕ))
    (e : ScriptError) → length bytes ≡ read → Consumes left now bytes → read + wanted ≤ whole
    → IsUnread wanted line now e → IsUnread whole line left e
unread_whole wanted whole read line bytes left now NoMemory size consumed fits h = tt
unread_whole wanted whole read line bytes left now Read size consumed fits h = tt
unread_whole wanted whole read line bytes None now (ShortData number) size consumed fits h = (h.0, tt)
unread_whole wanted whole read line bytes (Some xs) None (ShortData number) size consumed fits h =
    absurd consumed
unread_whole wanted whole read line bytes (Some xs) (Some ys) (ShortData number) size consumed fits h =
    let total = ap length consumed ∙ length-append bytes ys in (h.0, omega (arith, total, size, h.1, fits))
unread_whole wanted whole read line bytes left now (Syntax number) size consumed fits h = absurd h
unread_whole wanted whole read line bytes left now TooManyLines size consumed fits h = absurd h
unread_whole wanted whole read line bytes left now Write size consumed fits h = absurd h

-- ---- lines

-- the requests of the first k lines were made, and those of the others are still to come
pub record ReadsLines (lines : List Line) (k : ℕ) (left now : Option (List ℕ))
    (made : List Request) : Type 0 where
  pub count : ℕ
  pub part : ReadsPart (requests lines) (requests (drop k lines)) count left now made
  pub counts : count + taken (drop k lines) ≡ taken lines
  pub short : (held : ℕ) → first_short lines (count + held) ≡ first_short (drop k lines) held

pub lines_none : (lines : List Line) (left : Option (List ℕ)) → ReadsLines lines 0 left left []
lines_none lines left = record {
  count = 0;
  part = reads_none (requests lines) left;
  counts = omega arith;
  short = λ held. ap (first_short lines) (omega arith);
}

-- a line that the data holds isn't the short one
pub short_later : (line : Line) (rest : List Line) (held : ℕ)
    → first_short (line ∷ rest) (bytes_taken line + held) ≡ first_short rest held
short_later line rest held =
    let holds : nat_lt (bytes_taken line + held) (bytes_taken line) ≡ false = grind (arith, nat_tests) in
    let less : (bytes_taken line + held) - bytes_taken line ≡ held = omega arith in
    ap (λ (b : Bool). if b then Some line.number else first_short rest
    ((bytes_taken line + held) - bytes_taken line)) holds ∙ ap (first_short rest) less

-- a line that the data doesn't hold is
short_here : (line : Line) (rest : List Line) (held : ℕ) → held < bytes_taken line
    → first_short (line ∷ rest) held ≡ Some line.number
short_here line rest held h =
    let lacks : nat_lt held (bytes_taken line) ≡ true = grind (arith, nat_tests) in
    ap (λ (b : Bool). if b then Some line.number else first_short rest (held - bytes_taken line)) lacks

lines_from : (lines : List Line) (k : ℕ) (line other : Line) → k < length lines → line ≡ get_or lines k other
    → drop k lines ≡ line ∷ drop (suc k) lines
lines_from lines k line other h is = drop-cons lines k other h ∙ ap (λ (l : Line). l ∷ drop (suc k) lines)
    (sym is)

-- the request of a line, and those of the lines after it
line_makes : (line : Line) (rest : List Line) (request : Request) (piece : List ℕ)
    → length piece ≡ bytes_taken line → ((later : List ℕ) → request_made line.statement (piece ++ later)
    ≡ request)
    → (later : List ℕ) → requests (line ∷ rest) (piece ++ later) ≡ request ∷ requests rest later
line_makes line rest request piece size is later =
    ap (λ (r : Request). r ∷ requests rest (drop (bytes_taken line) (piece ++ later))) (is later)
    ∙ ap (λ (t : List ℕ). request ∷ requests rest t) (drop_at piece later (bytes_taken line) size)

pub lines_more : (lines : List Line) (k : ℕ) (line other : Line) (left now after : Option (List ℕ))
    (made : List Request) (request : Request) → k < length lines → line ≡ get_or lines k other
    → ReadsLines lines k left now made → ReadsRequest line now after request
    → ReadsLines lines (k + 1) left after (made ++ request ∷ [])
lines_more lines k line other left now after made request h is so_far read =
    let from = lines_from lines k line other h is in
    let makes : (later : List ℕ) → requests (drop k lines) (read.bytes ++ later) ≡ request ∷ requests
    (drop (suc k) lines) later =
    λ later. ap (λ (xs : List Line). requests xs (read.bytes ++ later)) from
    ∙ line_makes line (drop (suc k) lines) request read.bytes read.counted read.is_made later in
    let takes : taken (drop k lines) ≡ bytes_taken line + taken (drop (suc k) lines) = ap taken from
    ∙ sum_by-cons bytes_taken line (drop (suc k) lines) in
    rw add-one (record {
      count = so_far.count + bytes_taken line;
      part = reads_more (requests lines) (requests (drop k lines))
          (requests (drop (suc k) lines)) so_far.count (bytes_taken line)
          (so_far.count + bytes_taken line) left now after made request read.bytes so_far.part read.counted
          read.consumed makes refl;
      counts = omega (arith, so_far.counts, takes);
      short = λ held.
          ap (first_short lines) (omega arith)
          ∙ so_far.short (bytes_taken line + held)
          ∙ ap (λ (xs : List Line). first_short xs (bytes_taken line + held)) from
          ∙ short_later line (drop (suc k) lines) held;
    })

pub lines_whole : (lines : List Line) (k : ℕ) (left now : Option (List ℕ)) (made : List Request)
    → length lines ≤ k → ReadsLines lines k left now made → ReadsRequests lines left now made
lines_whole lines k left now made h so_far =
    let none : drop k lines ≡ [] = drop_of_length-le lines h in
    reads_whole (requests lines) (requests (drop k lines)) so_far.count
    (taken lines) left now made so_far.part (let rest = ap taken none in omega (arith, so_far.counts, rest))
    (λ later. ap (λ (xs : List Line). requests xs later) none)

-- data that doesn't hold a line's bytes makes it the short one
pub lines_unread : (lines : List Line) (k : ℕ) (line other : Line) (left now : Option (List ℕ))
    (made : List Request) (e : ScriptError) → k < length lines → line ≡ get_or lines k other
    → ReadsLines lines k left now made → IsUnread (bytes_taken line) line now e → AreUnread lines left e
lines_unread lines k line other left now made NoMemory h is so_far unread = tt
lines_unread lines k line other left now made Read h is so_far unread = tt
lines_unread lines k line other None now made (ShortData number) h is so_far unread = tt
lines_unread lines k line other (Some xs) None made (ShortData number) h is so_far unread =
    absurd so_far.part.consumed
lines_unread lines k line other (Some xs) (Some ys) made (ShortData number) h is so_far unread =
    let size : length xs ≡ so_far.count + length ys = ap length so_far.part.consumed
    ∙ length-append so_far.part.bytes ys ∙ ap (λ (n : ℕ). n + length ys) so_far.part.counted in
    ap (first_short lines) size
    ∙ so_far.short (length ys)
    ∙ ap (λ (xs : List Line). first_short xs (length ys)) (lines_from lines k line other h is)
    ∙ short_here line (drop (suc k) lines) (length ys) unread.1
    ∙ ap (λ (n : ℕ). Some n) (sym unread.0)
lines_unread lines k line other left now made (Syntax number) h is so_far unread = absurd unread
lines_unread lines k line other left now made TooManyLines h is so_far unread = absurd unread
lines_unread lines k line other left now made Write h is so_far unread = absurd unread

-- lines that use no data are lines of which none uses any
pub lines_idle : (lines : List Line) (k : ℕ) (other : Line) (left now : Option (List ℕ)) (made : List Request)
    → k < length lines → ReadsLines lines k left now made → taken lines ≡ 0
    → bytes_taken (get_or lines k other)
    ≡ 0
lines_idle lines k other left now made h so_far none =
    let takes : taken (drop k lines) ≡ bytes_taken (get_or lines k other) + taken (drop (suc k) lines) =
    ap taken (drop-cons lines k other h) ∙ sum_by-cons bytes_taken (get_or lines k other)
    (drop (suc k) lines) in
    omega (arith, so_far.counts, takes, none)
