-- The texts of the worked sheets, computed from the definitions: the sheet's bytes are read, the page filled, each price found by
-- replays, and the lines spelled. Assumes nothing.
use mathlib.Core.Path.{refl}
use Rattle.basis.specs.Bytes.{word16_at, word32_at}
use Rattle.basis.specs.First.{first_over}
use Rattle.basis.specs.Rows.{row, padded, joined}
use Rattle.basis.specs.Tests.{any_below, all_below, least}
use Rattle.sheet.specs.Sheet.{
  tick_field,
  effects_start,
  effect_field,
  bid_field,
  owner_field,
  own_slot_field,
  other_field,
  other_slot_field,
}
use Rattle.sheet.specs.Refusal.{
  form_refusal,
  counts_refusal,
  effect_refusal,
  bid_refusal,
  tick_refusal,
  legal_bid,
  in_range,
  fields_refusal,
  terms_refusal,
  fields_below,
  constraint_below,
  above_before,
  order_refusal,
  constraint_refusal,
  refusal_of,
}
use Rattle.sheet.specs.Round.{kind_of, constraint_field, round_of, constraint_at, bid_of, floor_of}
use Rattle.choice.specs.Winner.{ranks_no_lower, wins, winner}
use Rattle.auction.specs.Page.{at, put, empty_page, placed}
use Rattle.auction.specs.Broken.{own_holds, other_holds, broken, breaks_own}
use Rattle.auction.specs.Eligible.{breaks_earlier, first_failed, eligible}
use Rattle.auction.specs.Greedy.{winner_at, fill_slot, page_up_to, greedy_page}
use Rattle.auction.specs.Price.{with_bid, wins_with, price_for, price}
use Rattle.page_lines.specs.Decimal.{digits_within, decimal}
use Rattle.page_lines.specs.Lines.{field, line, refused_line}
use Rattle.page_job.specs.PageText.{slot_line, text_for, page_text}
use Rattle.page_job.specs.Printed.{TextsPrinted}

pub texts_printed : TextsPrinted
unfolding word16_at word32_at first_over row padded joined any_below all_below least tick_field effects_start effect_field bid_field owner_field own_slot_field other_field other_slot_field form_refusal counts_refusal effect_refusal bid_refusal tick_refusal legal_bid in_range fields_refusal terms_refusal fields_below constraint_below above_before order_refusal constraint_refusal refusal_of kind_of constraint_field round_of ranks_no_lower wins winner at put empty_page placed own_holds other_holds broken constraint_at bid_of floor_of breaks_own breaks_earlier first_failed eligible winner_at fill_slot page_up_to greedy_page with_bid wins_with price_for price digits_within decimal field line refused_line slot_line text_for page_text
texts_printed = refl
