-- Steps that commute with those before them may be executed first.
use Rattle.std.proofs.Common.{◌≡◌, ℕ, zero, suc, ◌<◌, List, [], ◌∷◌, ◌++◌, length, Some, refl, sym, ap, ◌∙◌, arith}
use Rattle.std.specs.Prelude.{slice_get, insert, remove}
use Rattle.uda_disk.specs.Runs.{runs, runs_first}

-- both orders of two steps agree
pub record Swaps {X E W : Type 0} (step : X → W → E × W) (a b : X) (w : W) : Type 0 where
  pub end_first : (step a w).0 ≡ (step a (step b w).1).0
  pub end_second : (step b (step a w).1).0 ≡ (step b w).0
  pub worlds : (step b (step a w).1).1 ≡ (step a (step b w).1).1

-- one that changes nothing, whenever it is executed, commutes with any
pub swaps_idle : {X E W : Type 0} (step : X → W → E × W) (a b : X) (e : E) → ((v : W) → step b v ≡ (e, v))
    → (w : W) → Swaps step a b w
swaps_idle {E = E} {W} step a b e idle w =
    let stays : (v : W) → (step b v).1 ≡ v = λ v. ap (λ (r : E × W). r.1) (idle v) in
    let tells : (v : W) → (step b v).0 ≡ e = λ v. ap (λ (r : E × W). r.0) (idle v) in
    record {
      end_first = sym (ap (λ (v : W). (step a v).0) (stays w));
      end_second = tells (step a w).1 ∙ sym (tells w);
      worlds = stays (step a w).1 ∙ sym (ap (λ (v : W). (step a v).1) (stays w));
    }

pub swaps_sym : {X E W : Type 0} (step : X → W → E × W) (a b : X) (w : W) → Swaps step b a w
    → Swaps step a b w
swaps_sym step a b w s = record {
  end_first = sym s.end_second;
  end_second = sym s.end_first;
  worlds = sym s.worlds;
}

-- and so do two that act as two commuting ones
pub swaps_same : {X E W : Type 0} (step other : X → W → E × W) (a b : X) → ((v : W) → other a v ≡ step a v)
    → ((v : W) → other b v ≡ step b v) → (w : W) → Swaps step a b w → Swaps other a b w
swaps_same {E = E} {W} step other a b is_a is_b w s =
    let behind_a : other a (other b w).1 ≡ step a (step b w).1 = ap (λ (r : E × W). other a r.1) (is_b w)
    ∙ is_a (step b w).1 in
    let behind_b : other b (other a w).1 ≡ step b (step a w).1 = ap (λ (r : E × W). other b r.1) (is_a w)
    ∙ is_b (step a w).1 in
    record {
      end_first = ap (λ (r : E × W). r.0) (is_a w) ∙ s.end_first ∙ sym (ap (λ (r : E × W). r.0) behind_a);
      end_second = ap (λ (r : E × W). r.0) behind_b ∙ s.end_second ∙ sym (ap (λ (r : E × W). r.0) (is_b w));
      worlds = ap (λ (r : E × W). r.1) behind_b ∙ s.worlds ∙ sym (ap (λ (r : E × W). r.1) behind_a);
    }

-- one that commutes with each before it may be executed first
pub first_is_free : {X E W : Type 0} (step : X → W → E × W) (xs : List X) (j : ℕ) (x : X) (w : W)
    → slice_get xs j ≡ Some x
    → ((i : ℕ) (y : X) (v : W) → i < j → slice_get xs i ≡ Some y → Swaps step x y v)
    → runs_first step j x xs w ≡ runs step xs w
first_is_free step [] j x w at swaps = absurd (cc)
first_is_free {X} step (first ∷ rest) zero x w at swaps =
    let same : first ≡ x = cc in
    ap (λ (a : X). runs step (a ∷ rest) w) (sym same)
first_is_free {X} {E} {W} step (first ∷ rest) (suc j) x w at swaps =
    let swap = swaps 0 first w (omega arith) refl in
    let induction = first_is_free step rest j x (step first w).1 at
    (λ i y v below there. swaps (suc i) y v (omega arith) there) in
    -- the result of the first, the result of the one that moves, and those of the others in the world that
    -- the two leave
    let joined : E → E → W → List E × W = λ e f v. let later = runs step (remove rest j) v in
    (e ∷ insert later.0 j f, later.1) in
    let behind : List E × W → List E × W = λ r. ((step first w).0 ∷ r.0, r.1) in
    ap (λ (e : E). joined e (step x w).0 (step first (step x w).1).1) swap.end_second
    ∙ ap (λ (e : E). joined (step first w).0 e (step first (step x w).1).1) swap.end_first
    ∙ ap (λ (v : W). joined (step first w).0 (step x (step first w).1).0 v) swap.worlds
    ∙ ap behind induction

-- one more at the end of a list
pub runs-push : {X E W : Type 0} (step : X → W → E × W) (xs : List X) (x : X) (w : W)
    → runs step (xs ++ x ∷ []) w ≡ (
      (runs step xs w).0 ++ (step x (runs step xs w).1).0 ∷ [],
      (step x (runs step xs w).1).1,
    )
runs-push step [] x w = refl
runs-push {E = E} {W} step (first ∷ rest) x w =
    let behind : List E × W → List E × W = λ r. ((step first w).0 ∷ r.0, r.1) in
    ap behind (runs-push step rest x (step first w).1)

pub length-runs : {X E W : Type 0} (step : X → W → E × W) (xs : List X) (w : W) → length (runs step xs w).0
    ≡ length xs
length-runs step [] w = refl
length-runs step (x ∷ rest) w = ap suc (length-runs step rest (step x w).1)
