use Rattle.kx_tool.proofs.PrintedAgain.{image_again}
use Rattle.kx_tool.proofs.Written.{found_is_compiled}
use Rattle.kx_tool.proofs.compiler.compile_once.Goals as goal

pub returns-clause-image : goal.returns-clause-image
returns-clause-image g c = (
  c.in_ok-tables.tables,
  record {
    image = c.in_ok-bytes.ensures.image;
    version_2 = c.in_ok-bytes.ensures.version_2;
    means = c.in_ok-tables.ensures.means;
  },
)

pub returns-clause-answers : goal.returns-clause-answers
returns-clause-answers g c = λ content found. found_is_compiled (returns-clause-image g c).1 content found

pub returns-clause-printed : goal.returns-clause-printed
returns-clause-printed g c = image_again _ _ _ c.read_printed_again.ensures.content _ _ (returns-clause-image g c).1
