-- A map in which a run is noted.
use Rattle.std.proofs.Common.{◌≡◌, Bool, true, false, inl, inr, ℕ, ◌+◌, if◌then◌else◌, List, [], ◌∷◌, ◌++◌, refl, sym, ap, ◌∙◌, arith}
use Rattle.std.specs.Prelude.{◌||◌, nat_eq}
use Rattle.std.proofs.lemmas.Bool.{cases_lt}
use Rattle.std.proofs.lemmas.Bool.Decides.{nat_tests, eqb_tells}
use Rattle.std.proofs.lemmas.List.Folds.{list_any-append}
use Rattle.uda50_copy.specs.declared.map.entry.BlockStatus.{BlockStatus}
use Rattle.uda50_copy.specs.declared.map.entry.BlockStatus.TheVariants.{Bad, Finished}
use Rattle.uda50_copy.specs.declared.map.entry.MapEntry.{MapEntry}
use Rattle.uda50_copy.specs.Map.{is_within, statuses_at, changed, IsSet}
use Rattle.uda50_copy.specs.Record.{is_one_of, IsRunNoted}

pub changed_again : (a b : BlockStatus) (statuses : List BlockStatus) → changed a (changed b statuses) ≡ changed a statuses
changed_again a b [] = refl
changed_again a b (x ∷ xs) = ap (λ (l : List BlockStatus). a ∷ l) (changed_again a b xs)

-- statuses that a run gives, if one more block is lost
one_lost : (lost inside : Bool) (s : List BlockStatus)
    → changed Bad (if lost then changed Bad s else if inside then changed Finished s else s) ≡ changed Bad s
one_lost true inside s = changed_again Bad Bad s
one_lost false true s = changed_again Bad Finished s
one_lost false false s = refl

or_true : (b : Bool) → (b || true) ≡ true
or_true true = refl
or_true false = refl

or_false : (b : Bool) → (b || false) ≡ b
or_false true = refl
or_false false = refl

pub is_one_of_push : (blocks : List ℕ) (block n : ℕ) → is_one_of (blocks ++ block ∷ []) n ≡ (is_one_of blocks n || nat_eq block n)
is_one_of_push blocks block n = list_any-append (λ (b : ℕ). nat_eq b n) blocks (block ∷ [])
    ∙ ap (λ (b : Bool). is_one_of blocks n || b) (or_false (nat_eq block n))

pub no_lost : (from end : ℕ) (entries after : List MapEntry) → IsSet from end Finished entries after
    → IsRunNoted from end [] entries after
no_lost from end entries after is = is

pub one_more : (from end block : ℕ) (lost : List ℕ) (entries before after : List MapEntry)
    → IsRunNoted from end lost entries before → IsSet block (block + 1) Bad before after
    → IsRunNoted from end (lost ++ block ∷ []) entries after
one_more from end block lost entries before after noted is n = is n ∙ elim (eqb_tells block n) [
  | inl both ↦
      let here : is_within block (block + 1) n ≡ true = grind (arith, nat_tests) in
      let among : is_one_of (lost ++ block ∷ []) n ≡ true =
      is_one_of_push lost block n ∙ ap (λ (b : Bool). is_one_of lost n || b) both.0 ∙ or_true (is_one_of lost n) in
      ap (λ (b : Bool). if b then changed Bad (statuses_at before n) else statuses_at before n) here
      ∙ ap (changed Bad) (noted n) ∙ one_lost (is_one_of lost n) (is_within from end n) (statuses_at entries n)
      ∙ sym (ap (λ (b : Bool). if b then changed Bad (statuses_at entries n)
      else if is_within from end n then changed Finished (statuses_at entries n) else statuses_at entries n) among)
  | inr both ↦
      let away : is_within block (block + 1) n ≡ false = apart n both.1 in
      let among : is_one_of (lost ++ block ∷ []) n ≡ is_one_of lost n =
      is_one_of_push lost block n ∙ ap (λ (b : Bool). is_one_of lost n || b) both.0 ∙ or_false (is_one_of lost n) in
      ap (λ (b : Bool). if b then changed Bad (statuses_at before n) else statuses_at before n) away
      ∙ noted n
      ∙ sym (ap (λ (b : Bool). if b then changed Bad (statuses_at entries n)
      else if is_within from end n then changed Finished (statuses_at entries n) else statuses_at entries n) among)
]
  where
    apart : (n : ℕ) → (block ≡ n → ⊥) → is_within block (block + 1) n ≡ false
    apart n differs = elim (cases_lt n block) [
      | inl low ↦ grind (arith, nat_tests)
      | inr high ↦ elim (cases_lt block n) [
        | inl past ↦ grind (arith, nat_tests)
        | inr to ↦ absurd (differs (omega (arith, high, to)))
      ]
    ]
