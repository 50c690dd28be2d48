-- `nreader::read_kind` meets its contract: the tag, then the letter. Assumes nothing.
use borrow.Author.Rules.{rules}
use Rattle.nreader.specs.Reader.{read_letter}
use Rattle.nreader.proofs.read_kind.Goals as goal

pub returns : goal.returns
unfolding read_letter
returns c = search rules
