-- What a function that writes text leaves in the lent buffer, and what it returns.
use Rattle.std.specs.Prelude.{ℕ, ◌+◌, List, ◌++◌, ◌≡◌, length, drop}
use Rattle.std.proofs.lemmas.List.Edits.{sets}

-- The bytes stand at an offset of the buffer and the rest is as it was; what is returned is the offset after them.
pub record Put (text : List ℕ) (at : ℕ) (bytes : List ℕ) (returned : ℕ) (text' : List ℕ) : Type 0 where
  pub next : returned ≡ at + length bytes
  pub buffer : text' ≡ sets text at bytes

-- The bytes stand at the buffer's front and the rest is as it was; what is returned is how many they are.
pub record Written (text bytes : List ℕ) (returned : ℕ) (text' : List ℕ) : Type 0 where
  pub count : returned ≡ length bytes
  pub buffer : text' ≡ bytes ++ drop (length bytes) text
