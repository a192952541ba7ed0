use Prim.Native.Nat.{ℕ, ◌+◌, ◌/◌, ◌%◌, ◌<◌, ◌≤◌}
use mathlib.Core.List.{List}
use mathlib.Core.Path.{◌≡◌, refl, sym, ap, subst}
use native.Mathlib.Omega.{arith}
use lib.ListN.{length, set}
use Rattle.page_lines.specs.Decimal.{decimal, digit}
use Rattle.page_lines.specs.Put.{Put}
use Rattle.page_lines.proofs.DecimalLaws.{decimal-small, decimal_large, large_length}
use Rattle.page_lines.proofs.PutLaws.{put_byte_after}
use Rattle.page_lines.proofs.+put_decimal.Goals as goal

put_small : (text : List ℕ) (at n : ℕ) → n < 10 → Put text at (decimal n) (at + 1) (set text at (digit n))
put_small text at n h =
    subst (λ (bytes : List ℕ). Put text at bytes (at + 1) (set text at (digit n))) (sym (decimal-small n h))
    (record { next = refl; buffer = refl })

put_large : (text text' : List ℕ) (at middle n : ℕ) → 10 ≤ n → Put text at (decimal (n / 10)) middle text' →
    Put text at (decimal n) (middle + 1) (set text' middle (digit (n % 10)))
put_large text text' at middle n h p =
    subst (λ (bytes : List ℕ). Put text at bytes (middle + 1) (set text' middle (digit (n % 10)))) (sym (decimal_large n h))
    (put_byte_after (decimal (n / 10)) text text' at middle (digit (n % 10)) p)

-- the room that a number asks: one byte below 10, and else one more than its tenth part asks
small_room : (n : ℕ) → n < 10 → length (decimal n) ≡ 1
small_room n h = ap length (decimal-small n h)

pub bounds-text-at : goal.bounds-text-at
bounds-text-at t c =
    let room = small_room c.args.value c.if-value-lt10.true in
    omega arith

pub returns-then-value-lt10 : goal.returns-then-value-lt10
returns-then-value-lt10 t c = put_small c.args.text.now c.args.at c.args.value c.if-value-lt10.true

pub put_decimal-last-requires : goal.put_decimal-last-requires
put_decimal-last-requires t c =
    let room = large_length c.args.value c.if-value-lt10.false in
    (omega arith, omega arith)

pub bounds-text-last : goal.bounds-text-last
bounds-text-last t c =
    let room = large_length c.args.value c.if-value-lt10.false in
    let put = c.put_decimal-last.ensures in
    omega (arith, c.put_decimal-last.auto.text)

pub overflow_add-result-2 : goal.overflow_add-result-2
overflow_add-result-2 t c =
    let room = large_length c.args.value c.if-value-lt10.false in
    let put = c.put_decimal-last.ensures in
    omega arith

pub returns : goal.returns
returns t c =
    let args = c.args in
    put_large args.text.now c.put_decimal-last.new.text
    args.at c.put_decimal-last.result args.value
    c.if-value-lt10.false c.put_decimal-last.ensures
