-- Each law by its name. A proof in another crate imports it so:
--     use Rattle.login_laws.proofs.ByName.{passed_keys_are_link_keys}
use Rattle.login_laws.specs.StartKeys.{StartKeysAreClientKeys}
use Rattle.login_laws.specs.Laws.{BoundedRowsAreLawful, PassedKeysAreLinkKeys, PassedKeysAreOfTheirRows, ReadRowsAreLawful, SettingsRowsAreLawful}
use Rattle.login_laws.proofs.Following.{start-client}
use Rattle.login_laws.proofs.Rows.{bounded-rows-lawful, read-rows-lawful, rows-lawful}
use Rattle.login_laws.proofs.PassedKeys.{passed_keys-linked, passed_keys-of_rows}

pub start_keys_are_client_keys : StartKeysAreClientKeys
start_keys_are_client_keys = start-client

pub passed_keys_are_link_keys : PassedKeysAreLinkKeys
passed_keys_are_link_keys = passed_keys-linked

pub settings_rows_are_lawful : SettingsRowsAreLawful
settings_rows_are_lawful = rows-lawful

pub read_rows_are_lawful : ReadRowsAreLawful
read_rows_are_lawful = read-rows-lawful

pub passed_keys_are_of_their_rows : PassedKeysAreOfTheirRows
passed_keys_are_of_their_rows = passed_keys-of_rows

pub bounded_rows_are_lawful : BoundedRowsAreLawful
bounded_rows_are_lawful = bounded-rows-lawful
