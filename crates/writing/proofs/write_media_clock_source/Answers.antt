-- `writing::write_media_clock_source` meets its contract: each refusal comes before the first put, and the text that is put fits the room.
use Rattle.writing.proofs.Laws.{laws}
use Rattle.std.proofs.Common.{rules}
use Rattle.writing.proofs.write_media_clock_source.Goals as goal

pub returns-then-n-gt-MOST_VALUE_BYTES : goal.returns-then-n-gt-MOST_VALUE_BYTES
returns-then-n-gt-MOST_VALUE_BYTES c = search (rules, laws)

pub returns-then-not-is_source_inside : goal.returns-then-not-is_source_inside
returns-then-not-is_source_inside c = search (rules, laws)

pub returns-then-most-room : goal.returns-then-most-room
returns-then-most-room c = search (rules, laws)

pub returns-then-room-needed : goal.returns-then-room-needed
returns-then-room-needed c = search (rules, laws)

pub returns : goal.returns
returns c = search (rules, laws)
