-- Lines that clap takes: so what is said of a refused line isn't said of every line.
use Rattle.std.proofs.Common.{◌≡◌, [], ◌∷◌, refl, true}
use Rattle.std.specs.Prelude.{codes}
use Rattle.clap.specs.Takes.{takes, walk_passes}
use Rattle.clap.specs.Walk.{walked}
use Rattle.pool_app.specs.Line.{pgsess}

pub replay_taken : takes pgsess (codes "pgsess" ∷ codes "replay" ∷ []) ≡ true
unfolding walked walk_passes
replay_taken = refl

pub serve_taken : takes pgsess (codes "pgsess" ∷ codes "serve" ∷ codes "--ini" ∷ codes "a" ∷ codes "--users" ∷ codes "b" ∷ codes "--key-seed=c" ∷ []) ≡ true
unfolding walked walk_passes
serve_taken = refl

pub stub_taken : takes pgsess (codes "pgsess" ∷ codes "stub" ∷ codes "--port" ∷ codes "5432" ∷ codes "--catalogue" ∷ codes "c" ∷ []) ≡ true
unfolding walked walk_passes
stub_taken = refl

pub seedless_taken : takes pgsess (codes "pgsess" ∷ codes "serve" ∷ codes "--ini" ∷ codes "a" ∷ codes "--users" ∷ codes "b" ∷ []) ≡ true
unfolding walked walk_passes
seedless_taken = refl

pub userless_taken : takes pgsess (codes "pgsess" ∷ codes "serve" ∷ codes "--ini" ∷ codes "a" ∷ []) ≡ true
unfolding walked walk_passes
userless_taken = refl

pub check_taken : takes pgsess (codes "pgsess" ∷ codes "check" ∷ codes "--ini" ∷ codes "a" ∷ codes "--users" ∷ codes "b" ∷ []) ≡ true
unfolding walked walk_passes
check_taken = refl
