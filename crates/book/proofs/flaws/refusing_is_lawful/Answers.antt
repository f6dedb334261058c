use Rattle.book.proofs.Refusing.{refusing_is_lawful}
use Rattle.book.proofs.flaws.refusing_is_lawful.Goals as goal

pub returns : goal.returns
returns c = refusing_is_lawful
