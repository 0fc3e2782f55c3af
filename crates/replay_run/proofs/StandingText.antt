-- The standing texts spell the standing settings, users and catalogue.
use Rattle.std.proofs.Common.{◌≡◌, ℕ, [], refl, sym, ◌∙◌, Result, Ok}
use Rattle.bstr.specs.Text.{line_len, lines_from, replaced_at, split_at}
use Rattle.bstr.specs.Trim.{kept_end, kept_start}
use Rattle.bstr.specs.Utf8.{pieces_from, spans_from}
use Rattle.memchr.specs.Find.{first_of, matches_from}
use Rattle.text_lines.specs.Files.{said_by}
use Rattle.text_lines.specs.Lines.{lines, raw_lines}
use Rattle.neutral_keys.specs.ReadOver.{at_any_value, at_one_value, is_read_over}
use Rattle.ini_config.specs.Reading as ini
use Rattle.ini_config.specs.Lines.{said as said_in}
use Rattle.ini_config.specs.DatabaseValues.{row_of, values_in}
use Rattle.ini_config.specs.Hosts.{host_of, is_folder, is_host, is_ip_host}
use Rattle.ini_config.specs.OptionValues.{auth_type, change_of, key_of}
use Rattle.ini_config.specs.Values.{dotted, names, number_between, octet}
use Rattle.user_file.specs.Users as users
use Rattle.user_file.specs.Fields as user_fields
use Rattle.session_catalogue.specs.Catalogues.{catalogue_of, fields, said, parts}
use Rattle.session_values.specs.State.{CatalogueOf}
use Rattle.session_catalogue.specs.declared.catalogue_fault.CatalogueCause.{CatalogueCause}
use Rattle.replay_run.specs.declared.standing.TheConstants.{CATALOGUE, SETTINGS, USERS}
use Rattle.replay_run.specs.Replay.{standing_catalogue, standing_settings, standing_table}

-- ---- the settings

pub settings_spelled : (said_by ini.with_line ini.fault_of ini.empty_file (lines SETTINGS.now)).settings ≡ standing_settings
unfolding standing_settings lines_from line_len kept_start kept_end spans_from pieces_from first_of matches_from split_at said_by said_in row_of values_in host_of is_host is_folder is_ip_host dotted octet number_between ini.with_row ini.with_option key_of is_read_over at_any_value at_one_value change_of auth_type names
settings_spelled = refl

pub users_spelled : said_by users.with_line users.fault_of [] (lines USERS.now) ≡ standing_table
unfolding standing_table lines_from line_len kept_start kept_end spans_from pieces_from matches_from replaced_at said_by users.user_of user_fields.fields user_fields.quoted
users_spelled = refl

-- ---- the catalogue

abbrev read : CatalogueOf → Result CatalogueOf (CatalogueCause × ℕ)
read c = Ok c

spelled : catalogue_of (raw_lines CATALOGUE.now) ≡ read standing_catalogue
unfolding fields said parts standing_catalogue lines_from line_len
spelled = refl

same : (a b : CatalogueOf) → read a ≡ read b → a ≡ b
same a b e = cc

pub standing_read : (c : CatalogueOf) → catalogue_of (raw_lines CATALOGUE.now) ≡ read c → c ≡ standing_catalogue
standing_read c e = same c standing_catalogue (sym e ∙ spelled)
