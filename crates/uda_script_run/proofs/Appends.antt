-- Runs of a list and then of another are runs of both.
use Rattle.std.proofs.Common.{◌≡◌, ℕ, zero, suc, ◌+◌, Bool, List, [], ◌∷◌, ◌++◌, length, refl, sym, ap, ap₂, ◌∙◌, arith}
use Rattle.std.specs.Prelude.{Some, slice_get, cond}
use Rattle.std.specs.List.{count_by}
use Rattle.std.proofs.lemmas.List.{map-append}
use Rattle.std.proofs.lemmas.List.Sums.{sum_by-append}
use Rattle.std.proofs.lemmas.List.Elements.{All-append}
use Rattle.uda_disk.specs.Disk.{Disks}
use Rattle.uda_disk.specs.Request.{Request}
use Rattle.uda_disk.specs.Answer.{Answer}
use Rattle.uda_disk.specs.Form.{IsAnswerOf}
use Rattle.uda_disk.specs.Runs.{runs}
use Rattle.uda_disk.specs.InOrderRun.{FixedRequest, FitsRequest, step, run_in_order, step_of, InOrderWithFailures, drive_errors, is_short, posted_count}

pub runs-append : {X E W : Type 0} (step : X → W → E × W) (xs ys : List X) (w : W)
    → runs step (xs ++ ys) w ≡ (
      (runs step xs w).0 ++ (runs step ys (runs step xs w).1).0,
      (runs step ys (runs step xs w).1).1,
    )
runs-append step [] ys w = refl
runs-append {E = E} {W} step (first ∷ rest) ys w =
    let after : List E × W → List E × W = λ r. ((step first w).0 ∷ r.0, r.1) in
    ap after (runs-append step rest ys (step first w).1)

-- the answers and the state after the first run, and then after the second
pub runs-both : {X E W : Type 0} (step : X → W → E × W) (xs ys : List X) (w v u : W) (es fs : List E)
    → runs step xs w ≡ (es, v) → runs step ys v ≡ (fs, u) → runs step (xs ++ ys) w ≡ (es ++ fs, u)
runs-both {E = E} {W} step xs ys w v u es fs one two =
    let after : List E × W → List E × W = λ r. (r.0 ++ (runs step ys r.1).0, (runs step ys r.1).1) in
    let joined : List E × W → List E × W = λ r. (es ++ r.0, r.1) in
    runs-append step xs ys w ∙ ap after one ∙ ap joined two

pub plain-both : (a b : List Request) (told later : List Answer) (disks between left : Disks)
    → (told, between) ≡ run_in_order disks a → (later, left) ≡ run_in_order between b
    → (told ++ later, left) ≡ run_in_order disks (a ++ b)
plain-both a b told later disks between left one two = sym
    (runs-both step a b disks between left told later (sym one) (sym two))

pub failures-both : (a b : List Request) (told later : List Answer) (disks between left : Disks)
    → InOrderWithFailures disks a told between → InOrderWithFailures between b later left
    → InOrderWithFailures disks (a ++ b) (told ++ later) left
failures-both a b told later disks between left one two = record {
  fixed = one.fixed ++ two.fixed;
  are_requests = map-append (λ (x : FixedRequest). x.request) one.fixed two.fixed
      ∙ ap₂ (λ (xs : List Request) (ys : List Request). xs ++ ys) one.are_requests two.are_requests;
  fit = All-append FitsRequest one.fixed two.fixed one.fit two.fit;
  gives = runs-both step_of one.fixed two.fixed disks between left told later one.gives two.gives;
}

pub errors-both : (u : ℕ) (a b : List Request) (told later : List Answer) → length told ≡ length a
    → drive_errors u (a ++ b) (told ++ later) ≡ drive_errors u a told + drive_errors u b later
errors-both u [] b [] later size = omega arith
errors-both u (r ∷ a) b (t ∷ told) later size = omega (arith, errors-both u a b told later (omega arith))
errors-both u _ b _ later size = absurd (omega arith)

pub count_by-append : {X : Type 0} (p : X → Bool) (xs ys : List X)
    → count_by p (xs ++ ys) ≡ count_by p xs + count_by p ys
count_by-append p xs ys = sum_by-append (λ x. cond (p x) 1 0) xs ys

pub posted-both : (a b : List Request) → posted_count (a ++ b) ≡ posted_count a + posted_count b
posted-both a b = count_by-append is_short a b

-- an answer of its form for each request
abbrev pub AreFormed : List Request → List Answer → Type 0
AreFormed requests answers = (k : ℕ) (r : Request) (answer : Answer) → slice_get requests k ≡ Some r
    → slice_get answers k ≡ Some answer → IsAnswerOf r answer

pub formed-both : (a b : List Request) (told later : List Answer) → length told ≡ length a → AreFormed a told
    → AreFormed b later → AreFormed (a ++ b) (told ++ later)
formed-both [] b [] later size one two k r x at here = two k r x at here
formed-both (q ∷ a) b (t ∷ told) later size one two zero r x at here = one zero r x at here
formed-both (q ∷ a) b (t ∷ told) later size one two (suc k) r x at here = formed-both a b told later
    (omega arith) (λ j. one (suc j)) two k r x at here
formed-both _ b _ later size one two k r x at here = absurd (omega arith)
