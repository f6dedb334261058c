use Rattle.std.proofs.Common.{ap, ◌∙◌}
use Rattle.session_file.specs.Answered.{file_text}
use Rattle.session.proofs.TooLong.{served}
use Rattle.session.proofs.serve.Goals as goal

pub returns : goal.returns
returns g c =
    served (record { places = 128 }) 512 (g.R.Read.remaining c.args.reader) (g.R.Read.remaining c.take.result.inner) c.take.result.limit
    (ap g.R.Read.remaining c.take.ensures.inner) c.take.ensures.limit c.new-file.result.items c.read_to_end.new.buf.items c.new-file.ensures.items
    c.in_ok-read_to_end.ensures.bytes (g.W.Write.contents c.args.writer.now) (g.W.Write.contents c.write.new.self) _
    (c.in_ok-text.ensures.exact ∙ ap (file_text (record { places = 128 }) 512) c.deref.ensures.value) c.in_ok-write.ensures.bytes
