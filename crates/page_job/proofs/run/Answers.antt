-- The text ends within its buffer.
use Rattle.std.proofs.Common.{sym, length-take-le}
use Rattle.page_job.proofs.InputLaws.{text-within}
use Rattle.page_job.proofs.run.Goals as goal

pub slice_bounds-text-end : goal.slice_bounds-text-end
slice_bounds-text-end g c = text-within _ _ _ _ _ c.input_text-length.ensures

pub slice_bounds-write_all-end : goal.slice_bounds-write_all-end
slice_bounds-write_all-end g c = sym (length-take-le _ _ (text-within _ _ _ _ _ c.input_text-length.ensures))
