use Rattle.uniting.proofs.Laws.{laws}
use Rattle.uniting.proofs.reprint.Reads as reads
use Rattle.uniting.proofs.reprint.Lts as lts
use Rattle.slots.proofs.print_at.Reads as print-at-reads
use Rattle.slots.proofs.set_print.Reads as set-print-reads
use Rattle.std.proofs.Common.{rules}
use Rattle.uniting.proofs.reprint.Goals as goal

-- src/lib.rt:42:9
pub returns-then-print_at-print : goal.returns-then-print_at-print
returns-then-print_at-print c = search (rules, laws)

-- src/lib.rt:38:1
pub returns : goal.returns
returns c = search (rules, laws)
