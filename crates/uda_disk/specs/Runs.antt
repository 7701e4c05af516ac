-- Steps executed one after another.
use Rattle.std.specs.Prelude.{ℕ, List, [], ◌∷◌, insert, remove}

-- the result of each step, and the state after the last
abbrev pub runs : {X E W : Type 0} → (X → W → E × W) → List X → W → List E × W
runs step [] w = ([], w)
runs step (x ∷ rest) w = let now = step x w in let later = runs step rest now.1 in (now.0 ∷ later.0, later.1)

-- the same with x, which has index j, executed first
abbrev pub runs_first : {X E W : Type 0} → (X → W → E × W) → ℕ → X → List X → W → List E × W
runs_first step j x xs w =
    let now = step x w in let later = runs step (remove xs j) now.1 in (insert later.0 j now.0, later.1)
