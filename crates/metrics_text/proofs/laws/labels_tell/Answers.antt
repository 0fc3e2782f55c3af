use Rattle.metrics_text.proofs.Telling.{labels}
use Rattle.metrics_text.proofs.laws.labels_tell.Goals as goal

pub returns : goal.returns
returns c = labels
