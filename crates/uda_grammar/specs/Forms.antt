-- The forms of a line that makes a request, by cases on its words.
use Rattle.std.specs.Prelude.{ℕ, true, false, List, [], ◌∷◌, codes, Option, Some, None, if◌then◌else◌}
use Rattle.std.specs.Option.{option_map, option_and_then}
use Rattle.std.specs.Str.{bytes_eq}
use Rattle.uda_grammar.specs.declared.verb.Verb.{Verb}
use Rattle.uda_grammar.specs.declared.verb.Verb.TheVariants as verb
use Rattle.uda_grammar.specs.declared.transfer.TransferNumbers.{TransferNumbers}
use Rattle.uda_grammar.specs.declared.statement.Measure.TheVariants.{Blocks}
use Rattle.uda_grammar.specs.declared.statement.Statement.{Statement}
use Rattle.uda_grammar.specs.declared.statement.Statement.TheVariants as form
use Rattle.uda_grammar.specs.Amounts.{amount_of, most_written}
use Rattle.uda_grammar.specs.Words.{verb_of, most_number, number_of, unit_named, byte_of}

-- one word: a unit
abbrev pub only_unit : List (List ℕ) → Option ℕ
only_unit (u ∷ []) = unit_named u
only_unit _ = None

-- a transfer, if all three numbers are valid
abbrev pub with_numbers : Option ℕ → Option ℕ → Option ℕ → Option TransferNumbers
with_numbers (Some unit) (Some lbn) (Some count) =
    Some (record { unit = unit; lbn = lbn; count = count })
with_numbers _ _ _ = None

-- three words: a unit, a first block, and a count, at most `most`
abbrev pub transfer_form : ℕ → List (List ℕ) → Option TransferNumbers
transfer_form most (u ∷ l ∷ n ∷ []) =
    with_numbers (unit_named u) (number_of most_number l) (number_of most n)
transfer_form most _ = None

-- a unit, and whether it is to have software write protection
abbrev pub online_of : List (List ℕ) → Option Statement
online_of (u ∷ []) = option_map (λ unit. form.Online unit false) (unit_named u)
online_of (u ∷ word ∷ []) =
    if bytes_eq word (codes "protect") then option_map (λ unit. form.Online unit true) (unit_named u)
    else None
online_of _ = None

-- a transfer and the byte that fills its blocks, if both are valid
abbrev pub with_byte : Option TransferNumbers → Option ℕ → Option Statement
with_byte (Some t) (Some byte) = Some (form.Fill t.unit t.lbn t.count byte)
with_byte _ _ = None

abbrev pub fill_of : List (List ℕ) → Option Statement
fill_of (u ∷ l ∷ n ∷ x ∷ []) = with_byte (transfer_form (most_written Blocks) (u ∷ l ∷ n ∷ [])) (byte_of x)
fill_of _ = None

-- the request of a line by the words after its first
abbrev pub statement_behind : Verb → List (List ℕ) → Option Statement
statement_behind verb.Online words = online_of words
statement_behind verb.Available words = option_map (λ unit. form.Available unit) (only_unit words)
statement_behind verb.Status words = option_map (λ unit. form.Status unit) (only_unit words)
statement_behind (verb.Read measure) words =
    option_map (λ t. form.Read t.unit t.lbn (amount_of measure t.count)) (transfer_form most_number words)
statement_behind (verb.Access measure) words =
    option_map (λ t. form.Access t.unit t.lbn (amount_of measure t.count)) (transfer_form most_number words)
statement_behind (verb.Erase measure) words =
    option_map (λ t. form.Erase t.unit t.lbn (amount_of measure t.count)) (transfer_form most_number words)
statement_behind (verb.Write measure) words =
    option_map (λ t. form.Write t.unit t.lbn (amount_of measure t.count))
    (transfer_form (most_written measure) words)
statement_behind verb.Fill words = fill_of words

-- the request of a line by its words, if they have one of the forms
abbrev pub statement_of : List (List ℕ) → Option Statement
statement_of [] = None
statement_of (word ∷ words) = option_and_then (λ v. statement_behind v words) (verb_of word)
