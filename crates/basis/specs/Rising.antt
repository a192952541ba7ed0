-- The laws' own: proved from the definitions, and nothing here need be believed.
-- Lists in strictly rising order of a key.
use Rattle.std.specs.Prelude.{ℕ, suc, ◌≤◌, List, [], ◌∷◌}

-- the keys rise strictly, from lo to below hi
abbrev pub Rising : {A : Type 0} → (A → ℕ) → ℕ → ℕ → List A → Type 0
Rising key lo hi [] = lo ≤ hi
Rising key lo hi (x ∷ l) = (lo ≤ key x) × Rising key (suc (key x)) hi l
