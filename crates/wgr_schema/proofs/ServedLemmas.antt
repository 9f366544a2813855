-- The texts that make a register are ones that nothing refuses.
use Rattle.std.proofs.Common.{codes, refl, arith}
use Rattle.std.specs.Fmt.{digits}
use Rattle.sqlite_value.specs.Order.{value_cmp}
use Rattle.sqlite_schema.specs.Names.{same_name as same_word}
use Rattle.sqlite_tied.specs.Compute.{everything}
use Rattle.sqlite_trees.specs.Sound.{begins, fits_kind, is_free_name, same_name}
use Rattle.wgr_columns.specs.Layout.{meta_table_at, tenant_table_at, token_table_at, network_table_at, peer_table_at, allowed_table_at, second_table_at, reader_table_at}
use Rattle.wgr_columns.specs.Texts.{meta_text, tenant_text, token_text, network_text, peer_text, allowed_text, allowed_peer_text}
use Rattle.wgr_columns.proofs.DefinedLemmas.{defined}
use Rattle.wgr_schema.specs.Fresh.{no_schema, meta_schema, tenant_schema, entries_schema, network_schema, peer_schema, tables_schema, whole_schema, second_schema, peer_index}
use Rattle.wgr_schema.specs.Upgrade.{reader_text, second_text}
use Rattle.wgr_schema.proofs.Meanings.{index_defined}
use Rattle.wgr_schema.proofs.RefusalLemmas.{IsIndexFor, IsTableFor}
use Rattle.wgr_schema.proofs.UpgradeTexts.{later_defined}

pub meta_served : IsTableFor no_schema meta_text (meta_table_at 0)
unfolding everything digits begins fits_kind is_free_name same_name same_word value_cmp lib.Ieee.is_nan lib.Ieee.lt lib.Utf8.encode
meta_served = record {
  defined = defined.0;
  spelled = (meta_text, (refl, refl));
  named = (codes "meta", (refl, refl));
  own = refl;
  free = refl;
  indexes = tt;
  few = omega arith;
  reals = refl;
  keys = tt;
  formed = refl;
  fit = refl;
  short = omega arith;
  uncounted = refl;
}

pub tenant_served : IsTableFor meta_schema tenant_text (tenant_table_at 0)
unfolding everything digits begins fits_kind is_free_name same_name same_word value_cmp lib.Ieee.is_nan lib.Ieee.lt lib.Utf8.encode
tenant_served = record {
  defined = defined.1;
  spelled = (tenant_text, (refl, refl));
  named = (codes "tenant", (refl, refl));
  own = refl;
  free = refl;
  indexes = (refl, tt);
  few = omega arith;
  reals = refl;
  keys = (refl, tt);
  formed = refl;
  fit = refl;
  short = omega arith;
  uncounted = refl;
}

pub token_served : IsTableFor tenant_schema token_text (token_table_at 0)
unfolding everything digits begins fits_kind is_free_name same_name same_word value_cmp lib.Ieee.is_nan lib.Ieee.lt lib.Utf8.encode
token_served = record {
  defined = defined.2;
  spelled = (token_text, (refl, refl));
  named = (codes "token", (refl, refl));
  own = refl;
  free = refl;
  indexes = (refl, tt);
  few = omega arith;
  reals = refl;
  keys = (refl, tt);
  formed = refl;
  fit = refl;
  short = omega arith;
  uncounted = refl;
}

pub network_served : IsTableFor entries_schema network_text (network_table_at 0)
unfolding everything digits begins fits_kind is_free_name same_name same_word value_cmp lib.Ieee.is_nan lib.Ieee.lt lib.Utf8.encode
network_served = record {
  defined = defined.3;
  spelled = (network_text, (refl, refl));
  named = (codes "network", (refl, refl));
  own = refl;
  free = refl;
  indexes = (refl, (refl, tt));
  few = omega arith;
  reals = refl;
  keys = (refl, (refl, tt));
  formed = refl;
  fit = refl;
  short = omega arith;
  uncounted = refl;
}

pub peer_served : IsTableFor network_schema peer_text (peer_table_at 0)
unfolding everything digits begins fits_kind is_free_name same_name same_word value_cmp lib.Ieee.is_nan lib.Ieee.lt lib.Utf8.encode
peer_served = record {
  defined = defined.4;
  spelled = (peer_text, (refl, refl));
  named = (codes "peer", (refl, refl));
  own = refl;
  free = refl;
  indexes = (refl, tt);
  few = omega arith;
  reals = refl;
  keys = (refl, tt);
  formed = refl;
  fit = refl;
  short = omega arith;
  uncounted = refl;
}

pub allowed_served : IsTableFor peer_schema allowed_text (allowed_table_at 0)
unfolding everything digits begins fits_kind is_free_name same_name same_word value_cmp lib.Ieee.is_nan lib.Ieee.lt lib.Utf8.encode
allowed_served = record {
  defined = defined.5;
  spelled = (allowed_text, (refl, refl));
  named = (codes "allowed", (refl, refl));
  own = refl;
  free = refl;
  indexes = (refl, tt);
  few = omega arith;
  reals = refl;
  keys = (refl, tt);
  formed = refl;
  fit = refl;
  short = omega arith;
  uncounted = refl;
}

pub index_served : IsIndexFor tables_schema 5 allowed_peer_text (allowed_table_at 10) peer_index
unfolding everything digits begins fits_kind is_free_name same_name same_word value_cmp lib.Ieee.is_nan lib.Ieee.lt lib.Utf8.encode
index_served = record {
  defined = index_defined;
  there = refl;
  spelled = (allowed_peer_text, (refl, refl));
  named = (codes "allowed_peer", (refl, refl));
  owner = (codes "allowed", (refl, refl));
  own = refl;
  free = refl;
  few = omega arith;
  reals = refl;
  keys = refl;
  fit = refl;
  short = omega arith;
}

pub second_served : IsTableFor whole_schema second_text (second_table_at 0)
unfolding everything digits begins fits_kind is_free_name same_name same_word value_cmp lib.Ieee.is_nan lib.Ieee.lt lib.Utf8.encode
second_served = record {
  defined = later_defined.0;
  spelled = (second_text, (refl, refl));
  named = (codes "second", (refl, refl));
  own = refl;
  free = refl;
  indexes = tt;
  few = omega arith;
  reals = refl;
  keys = tt;
  formed = refl;
  fit = refl;
  short = omega arith;
  uncounted = refl;
}

pub reader_served : IsTableFor second_schema reader_text (reader_table_at 0)
unfolding everything digits begins fits_kind is_free_name same_name same_word value_cmp lib.Ieee.is_nan lib.Ieee.lt lib.Utf8.encode
reader_served = record {
  defined = later_defined.1;
  spelled = (reader_text, (refl, refl));
  named = (codes "reader", (refl, refl));
  own = refl;
  free = refl;
  indexes = (refl, tt);
  few = omega arith;
  reals = refl;
  keys = (refl, tt);
  formed = refl;
  fit = refl;
  short = omega arith;
  uncounted = refl;
}
