-- `basis::put_word32` meets its contract: the four bytes that are copied are the definition's. Assumes nothing.
use Prim.Native.Nat.{◌+◌, ◌-◌}
use mathlib.Core.Path.{◌≡◌, ◌∙◌, ap}
use native.Mathlib.Omega.{arith}
use Rattle.std.proofs.Common.{length}
use Rattle.std.proofs.lemmas.List.Edits.{sets}
use Rattle.basis.specs.Bytes.{bytes32}
use Rattle.basis.proofs.SliceLaws.{put_mid-sets}
use Rattle.basis.proofs.put_word32.Goals as goal

pub returns : goal.returns
unfolding bytes32
returns c =
    let s = c.args.s.now in
    let at = c.args.at in
    let same : c.copy_from_slice.new.self ≡ bytes32 c.args.value = c.copy_from_slice.ensures.after ∙ c.to_le_bytes-bytes.ensures in
    let size : length c.copy_from_slice.new.self ≡ 4 = ap length same in
    put_mid-sets s c.copy_from_slice.new.self at (at + 4 - at) (omega arith) (omega arith) ∙ ap (sets s at) same
