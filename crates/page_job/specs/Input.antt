-- What is known of the program's input once it is read into a room, and what its text must be.
use Rattle.std.specs.Prelude.{ℕ, List, ◌≡◌, length, take}
use Rattle.page_lines.specs.Put.{Written}
use Rattle.page_job.specs.PageText.{page_text}

-- The room's first `count` bytes are the input's first, as many of them as the room can hold: all of them, where the input ended
-- before the room was full.
abbrev pub FirstBytes : (input room : List ℕ) (count : ℕ) → Type 0
FirstBytes input room count = take count room ≡ take (length room) input

-- Whatever the whole input is of which these are the first bytes, the text of the whole is written. In a room too small for a sheet
-- this cannot be met: two inputs that begin alike would have to have one text.
pub record TextOfInput (room : List ℕ) (count : ℕ) (text : List ℕ) (answer : ℕ) (text' : List ℕ) : Type 0 where
  pub of_whole : (input : List ℕ) → FirstBytes input room count → Written text (page_text input) answer text'
