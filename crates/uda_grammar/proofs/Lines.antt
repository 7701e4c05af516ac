-- A text that is read line by line, of which each line is kept up to a limit.
use Rattle.std.proofs.Common.{◌≡◌, ℕ, zero, suc, ◌+◌, ◌<◌, ◌≤◌, Bool, true, false, List, [], ◌∷◌, ◌++◌, length, take, Some, None, refl, sym, ap, ◌∙◌, arith, subst, append_assoc, append-nil, nat_lt}
use Rattle.std.specs.Prelude.{◌==◌}
use Rattle.std.proofs.lemmas.Bool.Decides.{nat_tests}
use Rattle.std.proofs.lemmas.List.{take_all, length-take-le}
use Rattle.std.proofs.lemmas.List.Splits.{slice_split_none, slice_split_at}
use Rattle.uda_grammar.specs.declared.script.Line.{Line}
use Rattle.uda_grammar.specs.Parts.{IsOneLine, lines_of, words_of}
use Rattle.uda_grammar.specs.Forms.{statement_of}
use Rattle.uda_grammar.specs.Reading.{is_silent, is_fault, request_in, requests_from, fault_from, LeadsTo}
use Rattle.uda_grammar.proofs.Lengths.{long_line}

lines-next : (line rest : List ℕ) → IsOneLine line → lines_of (line ++ 10 ∷ rest) ≡ line ∷ lines_of rest
lines-next line rest one = slice_split_at (λ byte. byte == 10) line 10 rest one refl

lines-last : (line : List ℕ) → IsOneLine line → lines_of line ≡ line ∷ []
lines-last line one = slice_split_none (λ byte. byte == 10) line one

-- ---- a line that is cut at a limit

cut_silent : (room : ℕ) (line : List ℕ) → 0 < room → is_silent (take room line) ≡ is_silent line
cut_silent zero line some = absurd (omega arith)
cut_silent (suc room) [] some = refl
cut_silent (suc room) (byte ∷ rest) some = refl

-- the first bytes of a line make the same request, or are no statement as the whole line
pub cut_line : (room number : ℕ) (line : List ℕ) → 40 < room
    → (is_fault (take room line) ≡ is_fault line) ×
    (request_in number (take room line) ≡ request_in number line)
cut_line room number line long = by (nat_lt room (length line)) refl
  where
    SameAs : List ℕ → Type 0
    SameAs kept = (is_fault kept ≡ is_fault line) × (request_in number kept ≡ request_in number line)

    by : (longer : Bool) → nat_lt room (length line) ≡ longer → SameAs (take room line)
    by false is =
        let short : length line ≤ room = grind (arith, nat_tests, is) in
        subst SameAs (sym (take_all room line short)) (refl, refl)
    by true is =
        let more : room < length line = grind (arith, nat_tests, is) in
        let size = length-take-le room line (omega (arith, more)) in
        let kept : statement_of (words_of (take room line)) ≡ None =
        long_line (take room line) (omega (arith, size, long)) in
        let whole : statement_of (words_of line) ≡ None = long_line line (omega (arith, more, long)) in
        rw (kept, whole, cut_silent room line (omega arith)) (refl, refl)

-- ---- what a beginning of a text leads to

pub leads_none : (number : ℕ) → LeadsTo number [] number []
leads_none number = record { requests = λ rest. refl; fault = λ rest. refl }

pub leads_more : (number next last : ℕ) (a b : List ℕ) (made later : List Line)
    → LeadsTo number a next made → LeadsTo next b last later → LeadsTo number (a ++ b) last (made ++ later)
leads_more number next last a b made later first second = record {
  requests = λ rest.
      ap (λ (t : List ℕ). requests_from number (lines_of t)) (append_assoc a b rest)
      ∙ first.requests (b ++ rest)
      ∙ ap (λ (ls : List Line). made ++ ls) (second.requests rest)
      ∙ sym (append_assoc made later (requests_from last (lines_of rest)));
  fault = λ rest.
      ap (λ (t : List ℕ). fault_from number (lines_of t)) (append_assoc a b rest)
      ∙ first.fault (b ++ rest)
      ∙ second.fault rest;
}

-- a line and its line feed
pub leads_line : (number : ℕ) (line : List ℕ) → IsOneLine line → is_fault line ≡ false
    → LeadsTo number (line ++ 10 ∷ []) (number + 1) (request_in number line)
leads_line number line one formed = record {
  requests = λ rest.
      ap (λ (t : List ℕ). requests_from number (lines_of t)) (append_assoc line (10 ∷ []) rest)
      ∙ ap (requests_from number) (lines-next line rest one)
      ∙ formed_requests number line (lines_of rest) formed;
  fault = λ rest.
      ap (λ (t : List ℕ). fault_from number (lines_of t)) (append_assoc line (10 ∷ []) rest)
      ∙ ap (fault_from number) (lines-next line rest one)
      ∙ formed_fault number line (lines_of rest) formed;
}
  where
    formed_requests : (number : ℕ) (line : List ℕ) (rest : List (List ℕ)) → is_fault line ≡ false
        → requests_from number (line ∷ rest) ≡ request_in number line ++ requests_from (number + 1) rest
    formed_requests number line rest formed = rw formed refl

    formed_fault : (number : ℕ) (line : List ℕ) (rest : List (List ℕ)) → is_fault line ≡ false
        → fault_from number (line ∷ rest) ≡ fault_from (number + 1) rest
    formed_fault number line rest formed = rw formed refl

-- ---- how a text ends

-- the last line of a text, which has no line feed
pub last_line : (number : ℕ) (line : List ℕ) → IsOneLine line → is_fault line ≡ false
    → (requests_from number (lines_of line) ≡ request_in number line) ×
    (fault_from number (lines_of line) ≡ None)
last_line number line one formed = rw (lines-last line one, formed)
    (append-nil (request_in number line), refl)

-- a line that is no statement, with whatever follows its line feed
pub fault_line : (number : ℕ) (line rest : List ℕ) → IsOneLine line → is_fault line ≡ true
    → (requests_from number (lines_of (line ++ 10 ∷ rest)) ≡ [])
    × (fault_from number (lines_of (line ++ 10 ∷ rest)) ≡ Some number)
fault_line number line rest one fault = rw (lines-next line rest one, fault) (refl, refl)

-- and one at the end of the text
pub last_fault : (number : ℕ) (line : List ℕ) → IsOneLine line → is_fault line ≡ true
    → (requests_from number (lines_of line) ≡ []) × (fault_from number (lines_of line) ≡ Some number)
last_fault number line one fault = rw (lines-last line one, fault) (refl, refl)
