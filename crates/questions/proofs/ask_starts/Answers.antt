use Rattle.base.specs.FirstLaws.{first-zero, scan-more}
use Rattle.questions.specs.AskLaws.{ask-stop, ask-pass}
use Rattle.matrix.specs.Questions.{ask3}
use Rattle.questions.proofs.ask_starts.Goals as goal

pub loop-i-init : goal.loop-i-init
loop-i-init c = first-zero _

pub returns-then-start_bad : goal.returns-then-start_bad
unfolding ask3
returns-then-start_bad c = search ask-stop depth 12

pub loop-i-preserved : goal.loop-i-preserved
loop-i-preserved c = search scan-more

pub returns : goal.returns
unfolding ask3
returns c = search ask-pass
