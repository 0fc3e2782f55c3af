-- A name is followed only where it is a followed one.
use Rattle.std.proofs.Common.{◌≡◌, Bool, true, false, refl}
use Rattle.std.specs.Prelude.{if◌then◌else◌}
use Rattle.std.proofs.lemmas.Bool.{false≢true}
use Rattle.ini_config.specs.OptionValues.{has_folded}
use Rattle.start_keys.specs.Lawful.{is_identity}
use Rattle.param_track.specs.declared.uses.Use.TheVariants.{Identity, Followed, Dropped, Unsupported, Replication}
use Rattle.param_track.specs.StartKeys.{Text, Names, is_replication, is_followed, use_of, is_use}

followed_by : (i r f d : Bool) → is_use (if i then Identity else (if r then Replication else (if f then Followed else (if d then Dropped else Unsupported)))) Followed ≡ true → f ≡ true
followed_by true r f d e = absurd (false≢true e)
followed_by false true f d e = absurd (false≢true e)
followed_by false false true d e = refl
followed_by false false false true e = absurd (false≢true e)
followed_by false false false false e = absurd (false≢true e)

pub followed-is : (names : Names) (name : Text) → is_use (use_of names name) Followed ≡ true → is_followed names name ≡ true
followed-is names name e = followed_by (is_identity name) (is_replication names name) (is_followed names name) (has_folded names.ignored name) e
