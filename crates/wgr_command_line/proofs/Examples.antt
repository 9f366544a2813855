-- What command lines ask for, by computation.
use Rattle.std.proofs.Common.{◌≡◌, true, false, [], ◌∷◌, Some, None, codes, refl}
use Rattle.clap.specs.declared.error.kind.ErrorKind.TheVariants as kind
use Rattle.clap.proofs.OnLiterals.{clap_on_literals}
use Rattle.wgr_command_line.specs.Words.{asked_by, wrong_with, Batch, Init, Migrate, Operate, Orders, Plan, Send, Serve, Show}
use Rattle.wgr_words.specs.Asked.{DigestEnd, NetworkEnd, TenantAdd, TokenEnd, TokenGrant}

plan : asked_by (codes "plan" ∷ codes "10.8.0.0/24" ∷ []) ≡ Some (Plan (codes "10.8.0.0/24"))
unfolding clap_on_literals
plan = refl

plan_after_dashes : asked_by (codes "plan" ∷ codes "--" ∷ codes "--help" ∷ []) ≡ Some (Plan (codes "--help"))
unfolding clap_on_literals
plan_after_dashes = refl

no_word : asked_by [] ≡ None
unfolding clap_on_literals
no_word = refl

no_pool : asked_by (codes "plan" ∷ []) ≡ None
unfolding clap_on_literals
no_pool = refl

other_command : asked_by (codes "plane" ∷ codes "10.8.0.0/24" ∷ []) ≡ None
unfolding clap_on_literals
other_command = refl

two_pools : asked_by (codes "plan" ∷ codes "10.8.0.0/24" ∷ codes "10.9.0.0/24" ∷ []) ≡ None
unfolding clap_on_literals
two_pools = refl

help_of_plan : asked_by (codes "plan" ∷ codes "--help" ∷ []) ≡ None
unfolding clap_on_literals
help_of_plan = refl

version : asked_by (codes "--version" ∷ []) ≡ None
unfolding clap_on_literals
version = refl

init : asked_by (codes "init" ∷ codes "a.db" ∷ []) ≡ Some (Init (codes "a.db"))
unfolding clap_on_literals
init = refl

migrate : asked_by (codes "migrate" ∷ codes "a.db" ∷ []) ≡ Some (Migrate (codes "a.db"))
unfolding clap_on_literals
migrate = refl

migrate_two_files : asked_by (codes "migrate" ∷ codes "a.db" ∷ codes "b.db" ∷ []) ≡ None
unfolding clap_on_literals
migrate_two_files = refl

tenant_add : asked_by (codes "tenant-add" ∷ codes "a.db" ∷ codes "acme" ∷ []) ≡ Some (Operate (codes "a.db") (TenantAdd (codes "acme")))
unfolding clap_on_literals
tenant_add = refl

token_grant : asked_by (codes "token-grant" ∷ codes "a.db" ∷ codes "acme" ∷ []) ≡ Some (Operate (codes "a.db") (TokenGrant (codes "acme") None))
unfolding clap_on_literals
token_grant = refl

token_grant_to_read : asked_by (codes "token-grant" ∷ codes "a.db" ∷ codes "acme" ∷ codes "--right" ∷ codes "read" ∷ [])
    ≡ Some (Operate (codes "a.db") (TokenGrant (codes "acme") (Some (codes "read"))))
unfolding clap_on_literals
token_grant_to_read = refl

token_grant_of_a_right_first : asked_by (codes "token-grant" ∷ codes "--right=full" ∷ codes "a.db" ∷ codes "acme" ∷ [])
    ≡ Some (Operate (codes "a.db") (TokenGrant (codes "acme") (Some (codes "full"))))
unfolding clap_on_literals
token_grant_of_a_right_first = refl

-- a right stands behind its option alone, and so does a token nowhere
token_grant_with_a_third_value : asked_by (codes "token-grant" ∷ codes "a.db" ∷ codes "acme" ∷ codes "read" ∷ []) ≡ None
unfolding clap_on_literals
token_grant_with_a_third_value = refl

token_end : asked_by (codes "token-end" ∷ codes "a.db" ∷ []) ≡ Some (Operate (codes "a.db") TokenEnd)
unfolding clap_on_literals
token_end = refl

token_end_by_digest : asked_by (codes "token-end" ∷ codes "a.db" ∷ codes "--digest" ∷ codes "0f" ∷ []) ≡ Some (Operate (codes "a.db") (DigestEnd (codes "0f")))
unfolding clap_on_literals
token_end_by_digest = refl

token_end_by_digest_first : asked_by (codes "token-end" ∷ codes "--digest=0f" ∷ codes "a.db" ∷ []) ≡ Some (Operate (codes "a.db") (DigestEnd (codes "0f")))
unfolding clap_on_literals
token_end_by_digest_first = refl

network_end : asked_by (codes "network-end" ∷ codes "a.db" ∷ codes "acme" ∷ codes "lab" ∷ []) ≡ Some (Operate (codes "a.db") (NetworkEnd (codes "acme") (codes "lab")))
unfolding clap_on_literals
network_end = refl

orders_of_standard_input : asked_by (codes "orders" ∷ codes "a.db" ∷ []) ≡ Some (Orders (codes "a.db") None)
unfolding clap_on_literals
orders_of_standard_input = refl

orders_of_a_file : asked_by (codes "orders" ∷ codes "a.db" ∷ codes "day" ∷ []) ≡ Some (Orders (codes "a.db") (Some (codes "day")))
unfolding clap_on_literals
orders_of_a_file = refl

orders_of_two_files : asked_by (codes "orders" ∷ codes "a.db" ∷ codes "day" ∷ codes "night" ∷ []) ≡ None
unfolding clap_on_literals
orders_of_two_files = refl

show : asked_by (codes "show" ∷ codes "a.db" ∷ []) ≡ Some (Show (codes "a.db") None false)
unfolding clap_on_literals
show = refl

show_as_json : asked_by (codes "show" ∷ codes "a.db" ∷ codes "--json" ∷ []) ≡ Some (Show (codes "a.db") None true)
unfolding clap_on_literals
show_as_json = refl

show_of_a_tenant : asked_by (codes "show" ∷ codes "a.db" ∷ codes "acme" ∷ []) ≡ Some (Show (codes "a.db") (Some (codes "acme")) false)
unfolding clap_on_literals
show_of_a_tenant = refl

show_of_a_tenant_as_json : asked_by (codes "show" ∷ codes "a.db" ∷ codes "acme" ∷ codes "--json" ∷ []) ≡ Some (Show (codes "a.db") (Some (codes "acme")) true)
unfolding clap_on_literals
show_of_a_tenant_as_json = refl

show_as_json_first : asked_by (codes "show" ∷ codes "--json" ∷ codes "a.db" ∷ codes "acme" ∷ []) ≡ Some (Show (codes "a.db") (Some (codes "acme")) true)
unfolding clap_on_literals
show_as_json_first = refl

show_of_a_name_like_the_option : asked_by (codes "show" ∷ codes "a.db" ∷ codes "--" ∷ codes "--json" ∷ []) ≡ Some (Show (codes "a.db") (Some (codes "--json")) false)
unfolding clap_on_literals
show_of_a_name_like_the_option = refl

show_of_two_tenants : asked_by (codes "show" ∷ codes "a.db" ∷ codes "acme" ∷ codes "globex" ∷ []) ≡ None
unfolding clap_on_literals
show_of_two_tenants = refl

show_with_a_value : asked_by (codes "show" ∷ codes "a.db" ∷ codes "--json=acme" ∷ []) ≡ None
unfolding clap_on_literals
show_with_a_value = refl

batch : asked_by (codes "batch" ∷ codes "a.db" ∷ codes "--now" ∷ codes "7" ∷ codes "b" ∷ codes "c" ∷ []) ≡ Some (Batch (codes "a.db") (codes "7") (codes "b" ∷ codes "c" ∷ []))
unfolding clap_on_literals
batch = refl

batch_of_no_file : asked_by (codes "batch" ∷ codes "a.db" ∷ codes "--now" ∷ codes "7" ∷ []) ≡ None
unfolding clap_on_literals
batch_of_no_file = refl

serve : asked_by (codes "serve" ∷ codes "a.db" ∷ codes "[::1]:80" ∷ codes "--count" ∷ codes "2" ∷ []) ≡ Some (Serve (codes "a.db") (codes "[::1]:80") (codes "2") None None)
unfolding clap_on_literals
serve = refl

serve_at_a_moment : asked_by (codes "serve" ∷ codes "a.db" ∷ codes "[::1]:80" ∷ codes "--now" ∷ codes "7" ∷ codes "--count" ∷ codes "2" ∷ []) ≡ Some (Serve (codes "a.db") (codes "[::1]:80") (codes "2") (Some (codes "7")) None)
unfolding clap_on_literals
serve_at_a_moment = refl

serve_with_orders : asked_by (codes "serve" ∷ codes "a.db" ∷ codes "[::1]:80" ∷ codes "--count" ∷ codes "2" ∷ codes "--orders" ∷ codes "s" ∷ []) ≡ Some (Serve (codes "a.db") (codes "[::1]:80") (codes "2") None (Some (codes "s")))
unfolding clap_on_literals
serve_with_orders = refl

serve_with_orders_at_a_moment : asked_by (codes "serve" ∷ codes "a.db" ∷ codes "--orders" ∷ codes "s" ∷ codes "[::1]:80" ∷ codes "--now" ∷ codes "7" ∷ codes "--count" ∷ codes "2" ∷ []) ≡ Some (Serve (codes "a.db") (codes "[::1]:80") (codes "2") (Some (codes "7")) (Some (codes "s")))
unfolding clap_on_literals
serve_with_orders_at_a_moment = refl

send : asked_by (codes "send" ∷ codes "s" ∷ codes "tenant-add" ∷ codes "acme" ∷ []) ≡ Some (Send (codes "s") (codes "tenant-add" ∷ codes "acme" ∷ []) None false)
unfolding clap_on_literals
send = refl

send_of_a_digest : asked_by (codes "send" ∷ codes "s" ∷ codes "token-end" ∷ codes "--digest" ∷ codes "0f" ∷ []) ≡ Some (Send (codes "s") (codes "token-end" ∷ []) (Some (codes "0f")) false)
unfolding clap_on_literals
send_of_a_digest = refl

send_of_a_digest_first : asked_by (codes "send" ∷ codes "--digest" ∷ codes "0f" ∷ codes "s" ∷ codes "token-end" ∷ []) ≡ Some (Send (codes "s") (codes "token-end" ∷ []) (Some (codes "0f")) false)
unfolding clap_on_literals
send_of_a_digest_first = refl

send_of_a_reading : asked_by (codes "send" ∷ codes "s" ∷ codes "show" ∷ codes "acme" ∷ codes "--json" ∷ []) ≡ Some (Send (codes "s") (codes "show" ∷ codes "acme" ∷ []) None true)
unfolding clap_on_literals
send_of_a_reading = refl

send_of_a_reading_behind_dashes : asked_by (codes "send" ∷ codes "s" ∷ codes "--" ∷ codes "show" ∷ codes "--json" ∷ []) ≡ Some (Send (codes "s") (codes "show" ∷ codes "--json" ∷ []) None false)
unfolding clap_on_literals
send_of_a_reading_behind_dashes = refl

send_of_a_right : asked_by (codes "send" ∷ codes "s" ∷ codes "token-grant" ∷ codes "acme" ∷ codes "--right" ∷ codes "read" ∷ []) ≡ Some (Send (codes "s") (codes "token-grant" ∷ codes "acme" ∷ codes "read" ∷ []) None false)
unfolding clap_on_literals
send_of_a_right = refl

send_of_another_words_right : asked_by (codes "send" ∷ codes "s" ∷ codes "network-end" ∷ codes "acme" ∷ codes "--right" ∷ codes "lab" ∷ []) ≡ Some (Send (codes "s") [] None false)
unfolding clap_on_literals
send_of_another_words_right = refl

send_of_a_right_behind_a_right : asked_by (codes "send" ∷ codes "s" ∷ codes "token-grant" ∷ codes "acme" ∷ codes "full" ∷ codes "--right" ∷ codes "read" ∷ []) ≡ Some (Send (codes "s") [] None false)
unfolding clap_on_literals
send_of_a_right_behind_a_right = refl

send_of_settings : asked_by (codes "send" ∷ codes "s" ∷ codes "network-add" ∷ codes "acme" ∷ codes "--capacity" ∷ codes "9" ∷ codes "--key" ∷ codes "k" ∷ codes "lab" ∷ codes "--host" ∷ codes "h" ∷ codes "--port" ∷ codes "1" ∷ codes "--pool" ∷ codes "p" ∷ [])
    ≡ Some (Send (codes "s") (codes "network-add" ∷ codes "acme" ∷ codes "lab" ∷ codes "p" ∷ codes "h" ∷ codes "1" ∷ codes "k" ∷ codes "9" ∷ []) None false)
unfolding clap_on_literals
send_of_settings = refl

send_of_four_settings : asked_by (codes "send" ∷ codes "s" ∷ codes "network-add" ∷ codes "acme" ∷ codes "lab" ∷ codes "--pool" ∷ codes "p" ∷ codes "--host" ∷ codes "h" ∷ codes "--port" ∷ codes "1" ∷ codes "--key" ∷ codes "k" ∷ [])
    ≡ Some (Send (codes "s") [] None false)
unfolding clap_on_literals
send_of_four_settings = refl

send_of_settings_and_a_right : asked_by (codes "send" ∷ codes "s" ∷ codes "network-add" ∷ codes "a" ∷ codes "b" ∷ codes "--right" ∷ codes "full" ∷ codes "--pool" ∷ codes "p" ∷ codes "--host" ∷ codes "h" ∷ codes "--port" ∷ codes "1" ∷ codes "--key" ∷ codes "k" ∷ codes "--capacity" ∷ codes "9" ∷ [])
    ≡ Some (Send (codes "s") [] None false)
unfolding clap_on_literals
send_of_settings_and_a_right = refl

send_of_another_words_settings : asked_by (codes "send" ∷ codes "s" ∷ codes "network-end" ∷ codes "a" ∷ codes "b" ∷ codes "--pool" ∷ codes "p" ∷ codes "--host" ∷ codes "h" ∷ codes "--port" ∷ codes "1" ∷ codes "--key" ∷ codes "k" ∷ codes "--capacity" ∷ codes "9" ∷ [])
    ≡ Some (Send (codes "s") [] None false)
unfolding clap_on_literals
send_of_another_words_settings = refl

send_of_no_word : asked_by (codes "send" ∷ codes "s" ∷ []) ≡ None
unfolding clap_on_literals
send_of_no_word = refl

-- what is wrong with them
no_word_wrong : wrong_with [] ≡ kind.MissingSubcommand ∷ []
unfolding clap_on_literals
no_word_wrong = refl

no_pool_wrong : wrong_with (codes "plan" ∷ []) ≡ kind.MissingRequiredArgument ∷ []
unfolding clap_on_literals
no_pool_wrong = refl

other_command_wrong : wrong_with (codes "plane" ∷ []) ≡ kind.UnknownArgument ∷ kind.InvalidSubcommand ∷ []
unfolding clap_on_literals
other_command_wrong = refl

help_wanted : wrong_with (codes "plan" ∷ codes "--help" ∷ []) ≡ kind.DisplayHelp ∷ []
unfolding clap_on_literals
help_wanted = refl

version_wanted : wrong_with (codes "--version" ∷ []) ≡ kind.DisplayVersion ∷ []
unfolding clap_on_literals
version_wanted = refl

two_pools_wrong : wrong_with (codes "plan" ∷ codes "10.8.0.0/24" ∷ codes "10.9.0.0/24" ∷ []) ≡ kind.UnknownArgument ∷ []
unfolding clap_on_literals
two_pools_wrong = refl

send_of_no_word_wrong : wrong_with (codes "send" ∷ codes "s" ∷ []) ≡ kind.MissingRequiredArgument ∷ []
unfolding clap_on_literals
send_of_no_word_wrong = refl
