-- Bytes that went to a writer, call by call.
use Rattle.std.proofs.Common.{◌≡◌, ℕ, ◌-◌, List, [], ◌++◌, length, take, drop, refl, sym, ap, subst, ◌∙◌, append_assoc, append-nil, take-append-drop}
use Rattle.std.specs.Prelude.{Option}
use Rattle.std.proofs.lemmas.List.{take_rest}
use Rattle.std.specs.Io.KnownBytes.{Appends, Keeps}
use Rattle.std.proofs.KnownBytes.{Appends-nil, Appends-trans, Appends-kept}
use Rattle.uda_script_run.specs.Texts.{AppendsBeginning}

-- of these bytes a beginning was appended, and the rest is still to come
pub record LeavesRest (old new : Option (List ℕ)) (bytes rest : List ℕ) : Type 0 where
  pub begun : List ℕ
  pub is_all : begun ++ rest ≡ bytes
  pub appended : Appends old new begun

pub leaves_all : (a : Option (List ℕ)) (bytes : List ℕ) → LeavesRest a a bytes bytes
leaves_all a bytes = record { begun = []; is_all = refl; appended = Appends-nil a }

-- `rest` without its first n bytes, as a slice from n on has it
pub leaves_less : (a b c : Option (List ℕ)) (bytes rest : List ℕ) (n : ℕ) → LeavesRest a b bytes rest
    → Appends b c (take n rest) → LeavesRest a c bytes (take (length rest - n) (drop n rest))
leaves_less a b c bytes rest n so_far more =
    record {
      begun = so_far.begun ++ take n rest;
      is_all =
          append_assoc so_far.begun (take n rest) _
          ∙ ap (λ (t : List ℕ). so_far.begun ++ (take n rest ++ t)) (take_rest rest n)
          ∙ ap (λ (t : List ℕ). so_far.begun ++ t) (take-append-drop n rest)
          ∙ so_far.is_all;
      appended = Appends-trans a b c so_far.begun (take n rest) so_far.appended more;
    }

pub leaves_same : (a b c : Option (List ℕ)) (bytes rest : List ℕ) → LeavesRest a b bytes rest → Keeps b c
    → LeavesRest a c bytes rest
leaves_same a b c bytes rest so_far same = record {
  begun = so_far.begun;
  is_all = so_far.is_all;
  appended = Appends-kept a b c so_far.begun so_far.appended same;
}

pub leaves_beginning : (a b : Option (List ℕ)) (bytes rest : List ℕ) → LeavesRest a b bytes rest
    → AppendsBeginning a b bytes
leaves_beginning a b bytes rest so_far =
    record { begun = so_far.begun; missing = rest; is_text = so_far.is_all; appended = so_far.appended }

pub leaves_none : (a b : Option (List ℕ)) (bytes rest : List ℕ) → LeavesRest a b bytes rest → rest ≡ []
    → Appends a b bytes
leaves_none a b bytes rest so_far none =
    subst (λ (t : List ℕ). Appends a b t) (sym (append-nil so_far.begun)
    ∙ ap (λ (t : List ℕ). so_far.begun ++ t) (sym none) ∙ so_far.is_all) so_far.appended

-- ---- a text that is written part by part

pub leaves_later : (a b c : Option (List ℕ)) (all part rest : List ℕ) → LeavesRest a b all (part ++ rest)
    → Appends b c part → LeavesRest a c all rest
leaves_later a b c all part rest so_far more = record {
  begun = so_far.begun ++ part;
  is_all = append_assoc so_far.begun part rest ∙ so_far.is_all;
  appended = Appends-trans a b c so_far.begun part so_far.appended more;
}

-- the writer failed within a part
pub leaves_broken : (a b c : Option (List ℕ)) (all part rest : List ℕ) → LeavesRest a b all (part ++ rest)
    → AppendsBeginning b c part → AppendsBeginning a c all
leaves_broken a b c all part rest so_far broken = record {
  begun = so_far.begun ++ broken.begun;
  missing = broken.missing ++ rest;
  is_text =
      append_assoc so_far.begun broken.begun _
      ∙ ap (λ (t : List ℕ). so_far.begun ++ t) (sym (append_assoc broken.begun broken.missing rest)
      ∙ ap (λ (t : List ℕ). t ++ rest) broken.is_text)
      ∙ so_far.is_all;
  appended = Appends-trans a b c so_far.begun broken.begun so_far.appended broken.appended;
}

-- all of it was written, and then nothing more
pub begins_whole : (a b c : Option (List ℕ)) (all : List ℕ) → Appends a b all → Keeps b c
    → AppendsBeginning a c all
begins_whole a b c all whole same = record {
  begun = all;
  missing = [];
  is_text = append-nil all;
  appended = Appends-kept a b c all whole same;
}

-- nothing was written
pub begins_none : (a : Option (List ℕ)) (all : List ℕ) → AppendsBeginning a a all
begins_none a all = record { begun = []; missing = all; is_text = refl; appended = Appends-nil a }
