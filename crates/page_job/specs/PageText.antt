-- What the page program prints for a sheet: "one line a place: place, bidder, price", or a refused sheet's one line instead.
use Rattle.std.specs.Prelude.{ℕ, zero, suc, ◌≤◌, List, ◌≡◌, take}
use Rattle.basis.specs.Rows.{joined}
use Rattle.sheet.specs.declared.Round.{Round}
use Rattle.sheet.specs.Refusal.{refusal_of}
use Rattle.sheet.specs.Round.{round_of}
use Rattle.auction.specs.Page.{at}
use Rattle.auction.specs.Greedy.{greedy_page}
use Rattle.auction.specs.Price.{price}
use Rattle.page_lines.specs.Lines.{line, refused_line}

-- the line of slot k. "An empty place shows bidder 0 and price 0."
unfoldable pub slot_line : Round → ℕ → List ℕ
slot_line r k = line k (at (greedy_page r) k) (price r k)

-- the text for a refusal's number, or for 0 the lines of slots 1 to m of an accepted sheet's round
unfoldable pub text_for : ℕ → Round → List ℕ
text_for zero r = joined (λ k. slot_line r (suc k)) r.slots
text_for (suc k) r = refused_line (suc k)

-- all that the program prints for a sheet
unfoldable pub page_text : List ℕ → List ℕ
page_text s = text_for (refusal_of s) (round_of s)

-- An input prints what its first bytes print, if these are 4,430 or more: no accepted sheet has more than 4,429.
abbrev pub FirstBytesDecide : Type 0
FirstBytesDecide = (room : ℕ) (s : List ℕ) → 4430 ≤ room → page_text (take room s) ≡ page_text s
