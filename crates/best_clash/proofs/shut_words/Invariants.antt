-- `best_clash::shut_words` meets its contract: the seats are gone through one by one, and each turn stores the word of one. Assumes nothing.
use Prim.Native.Nat.{◌+◌, ◌*◌, ◌-◌}
use Rattle.best_clash.proofs.TableLaws.{WordsTo}
use Rattle.best_clash.proofs.shut_words.Given as goal

abbrev pub invariant-loop-slot : goal.invariant-loop-slot
invariant-loop-slot l = WordsTo l.table l.shut (8 * (l.slot - 1))

abbrev pub invariant-loop-rank : goal.invariant-loop-rank
invariant-loop-rank l = WordsTo l.table l.shut (8 * (l.slot - 1) + l.rank)
