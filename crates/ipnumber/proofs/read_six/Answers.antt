-- `ipnumber::read_six` meets its contract: the groups on the sides of the first "::" settle it.
use Rattle.ipnumber.proofs.Whole.{six_many, six_over, six_both, six_laws}
use Rattle.std.proofs.Common.{rules}
use Rattle.ipnumber.proofs.read_six.Goals as goal
use Rattle.ipnumber.proofs.read_six.Goals.{then-right-gt7-via-then-right-gt7, then-right-gt7-via-else-right-gt7+then-right-left}

pub returns-in_err-all : goal.returns-in_err-all
returns-in_err-all c = search (rules, six_laws)

pub returns-then-all-eq8 : goal.returns-then-all-eq8
returns-then-all-eq8 c = search (rules, six_laws)

pub returns-else-all-eq8 : goal.returns-else-all-eq8
returns-else-all-eq8 c = search (rules, six_laws)

pub returns-in_err-left : goal.returns-in_err-left
returns-in_err-left c = search (rules, six_laws)

pub slice_bounds-read_groups-count : goal.slice_bounds-read_groups-count
slice_bounds-read_groups-count c = search (rules, six_laws)

pub slice_bounds-read_groups-start : goal.slice_bounds-read_groups-start
slice_bounds-read_groups-start c = search (rules, six_laws)

pub returns-in_err-right : goal.returns-in_err-right
returns-in_err-right c = search (rules, six_laws)

pub returns-then-right-gt7 : goal.returns-then-right-gt7
returns-then-right-gt7 c =
    elim c.then-right-gt7.branch [
      | then-right-gt7-via-then-right-gt7 w ↦
          six_many c.args.s.now c.find_pair-gap.result c.find_pair-gap.ensures c.if-s-gap.false c.read_groups-2.result c.read_groups-2.ensures c.in_ok-left.left
          c.in_ok-left.was c.read_groups-3.result c.read_groups-3.ensures c.in_ok-right.right c.in_ok-right.was w.if-right-gt7.true
      | then-right-gt7-via-else-right-gt7+then-right-left w ↦
          six_over c.args.s.now c.find_pair-gap.result c.find_pair-gap.ensures c.if-s-gap.false c.read_groups-2.result c.read_groups-2.ensures c.in_ok-left.left
          c.in_ok-left.was c.read_groups-3.result c.read_groups-3.ensures c.in_ok-right.right c.in_ok-right.was w.if-right-gt7.false w.if-right-left.true
    ]

pub returns : goal.returns
returns c =
    six_both c.args.s.now c.find_pair-gap.result c.find_pair-gap.ensures c.if-s-gap.false c.read_groups-2.result c.read_groups-2.ensures c.in_ok-left.left
    c.in_ok-left.was c.read_groups-3.result c.read_groups-3.ensures c.in_ok-right.right c.in_ok-right.was
    c.if-right-gt7.false c.if-right-left.false c.filled.result c.filled.ensures
