-- Each law by its name. A proof in another crate imports it so:
--     use Rattle.key_laws.proofs.ByName.{stub_keys_are_lawful}
use Rattle.start_keys.specs.Keys.{SameKeysAreOne}
use Rattle.start_keys.specs.SameKeys.{same_keys-one}
use Rattle.key_laws.specs.Keys.{PairsAreLawful, PutKeepsOrder, StubKeysAreLawful, KeyPairsFit, StubsOfClientKeys}
use Rattle.key_laws.proofs.Reading.{pairs-lawful}
use Rattle.key_laws.proofs.Ordering.{put-ordered}
use Rattle.key_laws.proofs.Lawful.{stub-lawful}
use Rattle.key_laws.proofs.Stubs.{key_pairs-fit, stub-ok}

pub pairs_are_lawful : PairsAreLawful
pairs_are_lawful = pairs-lawful

pub put_keeps_order : PutKeepsOrder
put_keeps_order = put-ordered

pub stub_keys_are_lawful : StubKeysAreLawful
stub_keys_are_lawful = stub-lawful

pub key_pairs_fit : KeyPairsFit
key_pairs_fit = key_pairs-fit

pub stubs_of_client_keys : StubsOfClientKeys
stubs_of_client_keys = stub-ok

pub same_keys_are_one : SameKeysAreOne
same_keys_are_one = same_keys-one
