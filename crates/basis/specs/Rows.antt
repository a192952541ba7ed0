-- Rows of values, one for each index.
use Rattle.std.specs.Prelude.{ℕ, zero, suc, ◌-◌, List, [], ◌∷◌, ◌++◌, replicate}

-- f 0, .., f (k - 1)
unfoldable pub row {ℓ} : {A : Type ℓ} → (ℕ → A) → ℕ → List A
row f zero = []
row f (suc k) = row f k ++ (f k ∷ [])

-- that row, and blanks after it up to n in all
unfoldable pub padded {ℓ} : {A : Type ℓ} → (ℕ → A) → ℕ → ℕ → A → List A
unfolding row
padded f k n blank = row f k ++ replicate (n - k) blank

-- the lists f 0, .., f (k - 1) one after another
unfoldable pub joined {ℓ} : {A : Type ℓ} → (ℕ → List A) → ℕ → List A
joined f zero = []
joined f (suc k) = joined f k ++ f k
