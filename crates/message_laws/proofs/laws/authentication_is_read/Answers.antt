use Rattle.message_view.specs.Reading.{authentication_of}
use Rattle.message_laws.proofs.Trips.{int32_reads, int32_spelled}
use Rattle.message_laws.proofs.laws.authentication_is_read.Goals as goal

pub returns : goal.returns
unfolding authentication_of
returns c = record {
  again = λ x h. int32_reads x.0 x.1 h;
  only = λ body x fits e. let p = int32_spelled body x.0 x.1 fits e in (p.1, p.0);
}
