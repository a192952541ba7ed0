use Prim.Native.Nat.{ℕ, suc, ◌+◌, ◌*◌, ◌≤◌}
use mathlib.Core.List.{List}
use mathlib.Core.Path.{◌≡◌, sym, ◌∙◌, ap, ap₂, subst}
use native.Mathlib.Nat.{le_antisymm}
use native.Mathlib.Numerals.{add-one}
use native.Mathlib.Omega.{arith}
use lib.ListN.{length}
use Rattle.basis.specs.Bytes.{byte_at, word32_at}
use Rattle.basis.specs.Rows.{joined}
use Rattle.page_lines.specs.Lines.{line, result_line, result_lines}
use Rattle.page_lines.specs.Put.{Put, Written}
use Rattle.page_lines.proofs.LinesLaws.{line_short}
use Rattle.page_lines.proofs.PutLaws.{put-nothing, put_after, put_in_front}
use Rattle.page_lines.proofs.slot_lines.Goals as goal

-- the line that the code puts is the definition's
line_read : (result : List ℕ) (k bidder price : ℕ) → bidder ≡ byte_at result (5 * k) → price ≡ word32_at result (5 * k + 1) →
    line (k + 1) bidder price ≡ result_line result (suc k)
unfolding result_line
line_read result k bidder price b p =
    ap (λ (n : ℕ). line n bidder price) (add-one k) ∙ ap₂ (λ (x y : ℕ). line (suc k) x y) b p

no_lines : (result text : List ℕ) → Put text 0 (result_lines result 0) 0 text
unfolding result_lines joined
no_lines result text = put-nothing text 0

-- the lines of k slots, and the next one where they end
line_more : (result text₀ text text' bytes : List ℕ) (k at end : ℕ) → bytes ≡ result_line result (suc k) →
    Put text₀ 0 (result_lines result k) at text → Put text at bytes end text' → Put text₀ 0 (result_lines result (k + 1)) end text'
unfolding result_lines joined
line_more result text₀ text text' bytes k at end e p q =
    subst (λ (n : ℕ). Put text₀ 0 (result_lines result n) end text') (sym (add-one k))
    (put_after (result_lines result k) (result_line result (suc k)) text₀ text text' 0 at end p
    (subst (λ (l : List ℕ). Put text at l end text') e q))

-- all lines are written
all_lines : (result text₀ text : List ℕ) (k slots at : ℕ) → k ≤ slots → slots ≤ k → at ≤ length text₀ →
    Put text₀ 0 (result_lines result k) at text → Written text₀ (result_lines result slots) at text
all_lines result text₀ text k slots at l g room p =
    subst (λ (n : ℕ). Written text₀ (result_lines result n) at text) (le_antisymm l g)
    (put_in_front (result_lines result k) text₀ text at (let e = p.next in omega arith) p)

pub loop-k-init : goal.loop-k-init
loop-k-init c =
    record { short = omega arith; put = no_lines c.args.res.now c.args.text.now }

pub put_line-at-requires : goal.put_line-at-requires
put_line-at-requires c =
    let loop = c.loop-k in
    let v = loop.invariant in
    let bidder = c.from-bidder.ensures in
    let low = c.type_inv.res (5 * loop.k) in
    let short = line_short (loop.k + 1) c.from-bidder.result c.word32-price.result (omega arith) (omega arith) (omega arith) in
    omega arith

pub loop-k-preserved : goal.loop-k-preserved
loop-k-preserved c =
    let loop = c.loop-k in
    let from = c.from-bidder in
    let word32 = c.word32-price in
    let args = c.args in
    let v = loop.invariant in
    let bidder = from.ensures in
    let low = c.type_inv.res (5 * loop.k) in
    let short = line_short (loop.k + 1) from.result word32.result (omega arith) (omega arith) (omega arith) in
    let put = c.put_line-at.ensures in
    record {
      short = omega arith;
      put =
          line_more args.res.now args.text.now loop.text c.put_line-at.new.text
          (line (loop.k + 1) from.result word32.result) loop.k loop.at c.put_line-at.result
          (line_read args.res.now loop.k from.result word32.result from.ensures word32.ensures)
          v.put put;
    }

pub returns : goal.returns
returns c =
    let args = c.args in
    let v = c.loop-k.invariant in
    all_lines args.res.now args.text.now c.loop-k.text c.loop-k.k args.slots c.loop-k.at
    (omega arith) (omega arith) (omega arith) v.put
