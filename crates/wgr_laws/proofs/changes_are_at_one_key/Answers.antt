use Rattle.wgr_laws.proofs.ChangeLemmas.{assigned_leads, assigned_others, put_others, put_stands_there, removed_gone, removed_others}
use Rattle.wgr_laws.proofs.changes_are_at_one_key.Goals as goal

pub returns : goal.returns
returns c = record {
  assigned = assigned_leads;
  assigned_others = assigned_others;
  removed = removed_gone;
  removed_others = removed_others;
  put = put_stands_there;
  put_others = put_others;
}
