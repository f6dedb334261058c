use Rattle.std.proofs.Common.{arith}
use Rattle.tables.proofs.Shifts.{put_in}
use Rattle.tables.proofs.rows.insert_at.Goals as goal

pub returns : goal.returns
returns c = put_in c.args.row.now c.args.at c.args.count (omega arith) (omega arith) (omega arith) c.args.order c.rotate_right.new.self c.rotate_right.ensures.after
