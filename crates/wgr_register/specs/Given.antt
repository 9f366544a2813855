-- What is rendered of an answer.
use Rattle.std.specs.Prelude.{◌≡◌, ℕ, List, map, Option, Some, None, option_map}
use Rattle.wgr_core.specs.Network.{NetworkValue}
use Rattle.wgr_core.specs.declared.reply.Reply.{Reply}
use Rattle.wgr_core.specs.declared.reply.Reply.TheVariants as reply
use Rattle.wgr_conf.specs.Files.{peer_config, server_config}
use Rattle.wgr_model.specs.Register.{Bytes}
use Rattle.wgr_model.specs.Steps.{Answer, Listed, Replied, Settings, new_network}
use Rattle.wgr_register.specs.declared.given.Given.{Given}
use Rattle.wgr_register.specs.declared.given.Given.TheVariants as given

-- a reply, the text of a file, or networks by name
pub data GivenValue : Type 0 where
  OfReply : Reply → GivenValue
  OfFile : Bytes → GivenValue
  OfNetworks : List (Bytes × NetworkValue) → GivenValue

abbrev pub given_view : Given → GivenValue
given_view (given.Reply reply) = OfReply reply.now
given_view (given.File text) = OfFile text.now
given_view (given.Networks networks) = OfNetworks networks.now

-- the settings of a network
abbrev pub settings_in : NetworkValue → Settings
settings_in n = record { pool = n.pool; host = n.host; port = n.port; server = n.server; capacity = n.capacity }

-- a network as it was added, under its name
abbrev pub as_added : Bytes × NetworkValue → Bytes × NetworkValue
as_added e = (e.0, new_network (settings_in e.1))

-- what a reply on a network gives: where it allows a file, the text of the file
abbrev pub reply_given : ℕ → NetworkValue → Reply → Option GivenValue
reply_given now n (reply.Peer peer) = Some (OfReply (reply.Peer peer))
reply_given now n (reply.Revoked number) = Some (OfReply (reply.Revoked number))
reply_given now n (reply.List peers) = Some (OfReply (reply.List peers))
reply_given now n (reply.Owner number) = Some (OfReply (reply.Owner number))
reply_given now n (reply.Adopted added known) = Some (OfReply (reply.Adopted added known))
reply_given now n (reply.Server form) = Some (OfFile (server_config n now form))
reply_given now n (reply.File number form) = option_map OfFile (peer_config n now number form)

-- what an answer gives, at its moment; a refusal gives nothing
abbrev pub given_of : ℕ → Answer → Option GivenValue
given_of now (Replied reply network) = reply_given now network reply
given_of now (Listed networks) = Some (OfNetworks (map as_added networks))
given_of now _ = None

-- the text shows what the answer gives
abbrev pub ShowsAnswer : (GivenValue → Bytes) → ℕ → Bytes → Answer → Type 0
ShowsAnswer shown now text answer = option_map shown (given_of now answer) ≡ Some text
