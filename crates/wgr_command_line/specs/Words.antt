-- The command line: what the words of `wgr` ask for, and what is wrong with them.
use Rattle.std.specs.Prelude.{◌≡◌, ◌≢◌, ◌++◌, Bool, true, false, List, [], ◌∷◌, Option, Some, None, codes, is_some, map, option_and_then, option_map, if◌then◌else◌, slice_get}
use Rattle.std.specs.Borrow.{Bor}
use Rattle.std.specs.List.{list_any}
use Rattle.std.specs.Option.{option_map_or}
use Rattle.std.specs.Str.{bytes_eq}
use Rattle.clap.specs.Kinds.{or_else}
use Rattle.clap.specs.Lexer.{usize_max}
use Rattle.clap.specs.Simple.{new_shape}
use Rattle.clap.specs.Words.{App, Kinds, Row, Rule, Text, fault_of, all_of, first_of, new_app, new_rule, subcommand_of, with_rule, with_subcommand}
use Rattle.clap.specs.declared.builder.action.ArgAction.TheVariants.{SetTrue}
use Rattle.clap.specs.declared.error.kind.ErrorKind.TheVariants.{MissingSubcommand}
use Rattle.wgr_command_line.specs.declared.invocation.Invocation.{Invocation}
use Rattle.wgr_command_line.specs.declared.invocation.Invocation.TheVariants as invocation
use Rattle.wgr_command_line.specs.declared.sending.SettingWords.{SettingWords}
use Rattle.wgr_words.specs.Asked.{DigestEnd, NetworkAdd, NetworkEnd, OrderAsked, TenantAdd, TokenEnd, TokenGrant, order_asked}

-- ---- the commands

-- a required positional value
abbrev pub value_rule : Text → Rule
value_rule id = record (new_rule id) { value_names = 1; required = true }

-- or the required value of an option, as `--port N`
abbrev pub option_rule : Text → Rule
option_rule id = record (value_rule id) { long = Some id }

-- a positional value that may be missing
abbrev pub optional_rule : Text → Rule
optional_rule id = record (new_rule id) { value_names = 1 }

-- or the value of an option that may be missing
abbrev pub choice_rule : Text → Rule
choice_rule id = record (optional_rule id) { long = Some id }

-- an option without a value
abbrev pub flag_rule : Text → Rule
flag_rule id = record (new_rule id) { long = Some id; action = Some SetTrue }

-- one or more positional values
abbrev pub values_rule : Text → Rule
values_rule id = record (value_rule id) { range = Some (record { start_inclusive = 1; end_inclusive = usize_max }) }

abbrev pub with_value : Text → App → App
with_value id app = with_rule app (value_rule id)

abbrev pub with_option : Text → App → App
with_option id app = with_rule app (option_rule id)

abbrev pub with_choice : Text → App → App
with_choice id app = with_rule app (choice_rule id)

abbrev pub with_flag : Text → App → App
with_flag id app = with_rule app (flag_rule id)

-- `plan POOL`
abbrev pub plan_app : App
plan_app = with_value (codes "pool") (new_app (codes "plan"))

-- a command on the register in the file `DB`
abbrev pub db_app : Text → App
db_app name = with_value (codes "db") (new_app name)

-- `init DB`
abbrev pub init_app : App
init_app = db_app (codes "init")

-- `migrate DB`
abbrev pub migrate_app : App
migrate_app = db_app (codes "migrate")

-- `tenant-add DB NAME`
abbrev pub tenant_add_app : App
tenant_add_app = with_value (codes "name") (db_app (codes "tenant-add"))

-- `token-grant DB TENANT [--right R]`
abbrev pub token_grant_app : App
token_grant_app = with_choice (codes "right") (with_value (codes "tenant") (db_app (codes "token-grant")))

-- `token-end DB [--digest HEX]`
abbrev pub token_end_app : App
token_end_app = with_choice (codes "digest") (db_app (codes "token-end"))

-- a command on a tenant's network: `DB TENANT NAME`
abbrev pub network_app : Text → App
network_app name = with_value (codes "name") (with_value (codes "tenant") (db_app name))

-- `network-add DB TENANT NAME --pool P --host H --port N --key K --capacity N`
abbrev pub network_add_app : App
network_add_app =
    with_option (codes "capacity") (with_option (codes "key") (with_option (codes "port") (with_option (codes "host") (with_option (codes "pool")
    (network_app (codes "network-add"))))))

-- `network-end DB TENANT NAME`
abbrev pub network_end_app : App
network_end_app = network_app (codes "network-end")

-- `orders DB [FILE]`
abbrev pub orders_app : App
orders_app = with_rule (db_app (codes "orders")) (optional_rule (codes "file"))

-- `show DB [TENANT] [--json]`
abbrev pub show_app : App
show_app = with_flag (codes "json") (with_rule (db_app (codes "show")) (optional_rule (codes "tenant")))

-- `batch DB --now N FILE..`
abbrev pub batch_app : App
batch_app = with_rule (with_option (codes "now") (db_app (codes "batch"))) (values_rule (codes "file"))

-- `serve DB HOST:PORT --count N [--now N] [--orders PATH]`
abbrev pub serve_app : App
serve_app =
    with_choice (codes "orders") (with_choice (codes "now") (with_option (codes "count") (with_value (codes "place") (db_app (codes "serve")))))

-- `send PATH`
abbrev pub socket_app : App
socket_app = with_value (codes "path") (new_app (codes "send"))

-- `send PATH [--right R] [--pool P] [--host H] [--port N] [--key K] [--capacity N]`
abbrev pub field_app : App
field_app =
    with_choice (codes "capacity") (with_choice (codes "key") (with_choice (codes "port") (with_choice (codes "host") (with_choice (codes "pool")
    (with_choice (codes "right") socket_app)))))

-- the same with `[--digest HEX] [--json] WORD..`
abbrev pub send_app : App
send_app = with_rule (with_flag (codes "json") (with_choice (codes "digest") field_app)) (values_rule (codes "word"))

-- `wgr` has a version and requires a command; its own name is not one of the words
abbrev pub wgr_alone : App
wgr_alone = record {
  top = record (new_shape (codes "wgr")) { has_version = true; no_binary_name = true; subcommand_required = true };
  subs = [];
}

abbrev pub with_command : App → App → App
with_command command app = with_subcommand app command.top

abbrev pub wgr_app : App
wgr_app =
    with_command send_app (with_command serve_app (with_command batch_app (with_command show_app (with_command orders_app (with_command network_end_app
    (with_command network_add_app (with_command token_end_app (with_command token_grant_app (with_command tenant_add_app (with_command migrate_app (with_command init_app (with_command plan_app wgr_alone))))))))))))

-- ---- what is asked for

-- A plan of a pool; a new register in the file `db`, an order on the register there, the orders that are the lines of
-- a file or of standard input, or what the register has; the answers to the requests in files, or to connections, at a
-- moment or by the clock, where orders and readings may come over the socket `orders`; or one of these by its words,
-- sent to that socket. There are no words where an option is another order's.
pub data Asked : Type 0 where
  Plan : (pool : Text) → Asked
  Init : (db : Text) → Asked
  Migrate : (db : Text) → Asked
  Operate : (db : Text) (order : OrderAsked) → Asked
  Orders : (db : Text) (file : Option Text) → Asked
  Show : (db : Text) (tenant : Option Text) (is_json : Bool) → Asked
  Batch : (db now : Text) (files : List Text) → Asked
  Serve : (db place count : Text) (now orders : Option Text) → Asked
  Send : (path : Text) (words : List Text) (digest : Option Text) (is_json : Bool) → Asked

-- what is made of the value with this name, which must be present
abbrev pub with_first : Text → List Row → (Text → Option Asked) → Option Asked
with_first id rows made = option_and_then made (first_of id rows)

-- whether the option without a value is given
abbrev pub is_set : Text → List Row → Bool
is_set id rows = option_map_or (λ text. bytes_eq text (codes "true")) (first_of id rows) false

abbrev pub plan_in : List Row → Option Asked
plan_in rows = with_first (codes "pool") rows (λ pool. Some (Plan pool))

abbrev pub init_in : List Row → Option Asked
init_in rows = with_first (codes "db") rows (λ db. Some (Init db))

abbrev pub migrate_in : List Row → Option Asked
migrate_in rows = with_first (codes "db") rows (λ db. Some (Migrate db))

abbrev pub tenant_add_in : List Row → Option Asked
tenant_add_in rows =
    with_first (codes "db") rows (λ db.
    with_first (codes "name") rows (λ name.
    Some (Operate db (TenantAdd name))))

abbrev pub token_grant_in : List Row → Option Asked
token_grant_in rows =
    with_first (codes "db") rows (λ db.
    with_first (codes "tenant") rows (λ tenant.
    Some (Operate db (TokenGrant tenant (first_of (codes "right") rows)))))

-- the end of a token by its digest, or of the one that is given apart
abbrev pub end_by : Option Text → OrderAsked
end_by None = TokenEnd
end_by (Some digest) = DigestEnd digest

abbrev pub token_end_in : List Row → Option Asked
token_end_in rows = with_first (codes "db") rows (λ db. Some (Operate db (end_by (first_of (codes "digest") rows))))

abbrev pub network_add_in : List Row → Option Asked
network_add_in rows =
    with_first (codes "db") rows (λ db.
    with_first (codes "tenant") rows (λ tenant.
    with_first (codes "name") rows (λ name.
    with_first (codes "pool") rows (λ pool.
    with_first (codes "host") rows (λ host.
    with_first (codes "port") rows (λ port.
    with_first (codes "key") rows (λ key.
    with_first (codes "capacity") rows (λ capacity.
    Some (Operate db (NetworkAdd (record { tenant = tenant; name = name; pool = pool; host = host; port = port; key = key; capacity = capacity })))))))))))

abbrev pub network_end_in : List Row → Option Asked
network_end_in rows =
    with_first (codes "db") rows (λ db.
    with_first (codes "tenant") rows (λ tenant.
    with_first (codes "name") rows (λ name.
    Some (Operate db (NetworkEnd tenant name)))))

abbrev pub orders_in : List Row → Option Asked
orders_in rows = with_first (codes "db") rows (λ db. Some (Orders db (first_of (codes "file") rows)))

abbrev pub show_in : List Row → Option Asked
show_in rows = with_first (codes "db") rows (λ db. Some (Show db (first_of (codes "tenant") rows) (is_set (codes "json") rows)))

abbrev pub batch_in : List Row → Option Asked
batch_in rows =
    with_first (codes "db") rows (λ db.
    with_first (codes "now") rows (λ now.
    option_map (Batch db now) (all_of (codes "file") rows)))

abbrev pub serve_in : List Row → Option Asked
serve_in rows =
    with_first (codes "db") rows (λ db.
    with_first (codes "place") rows (λ place.
    with_first (codes "count") rows (λ count.
    Some (Serve db place count (first_of (codes "now") rows) (first_of (codes "orders") rows)))))

-- `token-grant TENANT`
abbrev pub is_grant : List Text → Bool
is_grant (word ∷ tenant ∷ []) = bytes_eq word (codes "token-grant")
is_grant words = false

-- `network-add TENANT NAME`
abbrev pub is_new_network : List Text → Bool
is_new_network (word ∷ tenant ∷ name ∷ []) = bytes_eq word (codes "network-add")
is_new_network words = false

-- The words of a grant with its right, or of a new network with its settings. Of another order there are none.
abbrev pub with_given_right : Text → List Text → List Text
with_given_right right words = if is_grant words then words ++ right ∷ [] else []

abbrev pub with_settings : List Text → List Text → List Text
with_settings settings words = if is_new_network words then words ++ settings else []

-- the settings of a network in the order of a line's fields, if all are given
abbrev pub given_settings : List Row → Option (List Text)
given_settings rows =
    option_and_then (λ pool.
    option_and_then (λ host.
    option_and_then (λ port.
    option_and_then (λ key.
    option_map (λ capacity. pool ∷ host ∷ port ∷ key ∷ capacity ∷ []) (first_of (codes "capacity") rows))
    (first_of (codes "key") rows))
    (first_of (codes "port") rows))
    (first_of (codes "host") rows))
    (first_of (codes "pool") rows)

abbrev pub has_setting : List Row → Bool
has_setting rows = list_any (λ id. is_some (first_of id rows)) (codes "pool" ∷ codes "host" ∷ codes "port" ∷ codes "key" ∷ codes "capacity" ∷ [])

-- the words with the fields behind them that are given as options: a right, or all settings and no right
abbrev pub fields_behind : Option Text → Option (List Text) → Bool → List Text → List Text
fields_behind None None false words = words
fields_behind None (Some settings) some words = with_settings settings words
fields_behind (Some right) settings false words = with_given_right right words
fields_behind right settings some words = []

abbrev pub with_fields : List Row → List Text → List Text
with_fields rows words = fields_behind (first_of (codes "right") rows) (given_settings rows) (has_setting rows) words

abbrev pub send_in : List Row → Option Asked
send_in rows =
    with_first (codes "path") rows (λ path.
    option_map (λ words. Send path (with_fields rows words) (first_of (codes "digest") rows) (is_set (codes "json") rows)) (all_of (codes "word") rows))

-- what a command asks for by its values
abbrev pub asked_in : Text × List Row → Option Asked
asked_in (name, rows) =
    if bytes_eq name (codes "batch") then batch_in rows else
    if bytes_eq name (codes "send") then send_in rows else
    if bytes_eq name (codes "plan") then plan_in rows else
    if bytes_eq name (codes "init") then init_in rows else
    if bytes_eq name (codes "migrate") then migrate_in rows else
    if bytes_eq name (codes "tenant-add") then tenant_add_in rows else
    if bytes_eq name (codes "token-grant") then token_grant_in rows else
    if bytes_eq name (codes "token-end") then token_end_in rows else
    if bytes_eq name (codes "network-add") then network_add_in rows else
    if bytes_eq name (codes "network-end") then network_end_in rows else
    if bytes_eq name (codes "orders") then orders_in rows else
    if bytes_eq name (codes "show") then show_in rows else
    if bytes_eq name (codes "serve") then serve_in rows else
    None

abbrev pub named_by : List Text → Option Asked
named_by words = option_and_then asked_in (subcommand_of wgr_app words)

-- nothing is asked for where something is wrong
abbrev pub unless_wrong : Kinds → Option Asked → Option Asked
unless_wrong [] asked = asked
unless_wrong (kind ∷ kinds) asked = None

-- what the words ask for
abbrev pub asked_by : List Text → Option Asked
asked_by words = unless_wrong (fault_of wgr_app words) (named_by words)

abbrev pub if_missing : Option Asked → Kinds
if_missing None = MissingSubcommand ∷ []
if_missing (Some asked) = []

-- The kinds of error of the words, including requests for help and the version; none if the words ask for something.
abbrev pub wrong_with : List Text → Kinds
wrong_with words = or_else (fault_of wgr_app words) (if_missing (named_by words))

-- ---- what is asked for, in the program's types

-- the settings of a network in the order of a line's fields
abbrev pub setting_words : SettingWords → List Text
setting_words s = s.pool.now ∷ s.host.now ∷ s.port.now ∷ s.key.now ∷ s.capacity.now ∷ []

abbrev pub optional_text : Option (Bor Text) → Option Text
optional_text = option_map (λ text. text.now)

abbrev pub texts_of : List (Bor Text) → List Text
texts_of = map (λ text. text.now)

abbrev pub asked_of : Invocation → Asked
asked_of (invocation.Plan pool) = Plan pool.now
asked_of (invocation.Init db) = Init db.now
asked_of (invocation.Migrate db) = Migrate db.now
asked_of (invocation.Operate db order) = Operate db.now (order_asked order)
asked_of (invocation.Orders db file) = Orders db.now (optional_text file)
asked_of (invocation.Show db tenant is_json) = Show db.now (optional_text tenant) is_json
asked_of (invocation.Batch db now files) = Batch db.now now.now (texts_of files.items)
asked_of (invocation.Serve db place count now orders) = Serve db.now place.now count.now (optional_text now) (optional_text orders)
asked_of (invocation.Send path words digest is_json) = Send path.now (texts_of words.items) (optional_text digest) is_json

-- ---- a law

-- the word after `plan` is the pool, unless it begins like a flag, with a hyphen (45)
abbrev pub PoolIsAsked : Type 0
PoolIsAsked = (pool : Text) → slice_get pool 0 ≢ Some 45 → asked_by (codes "plan" ∷ pool ∷ []) ≡ Some (Plan pool)
