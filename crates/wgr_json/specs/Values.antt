-- Values as JSON. Numbers are whole, and each text is a string.
use Rattle.std.specs.Prelude.{ℕ, List}
use Rattle.serde_json.specs.Data.{Data, array, number, string, unsigned}
use Rattle.serde_json.specs.View.{items_of}
use Rattle.wgr_text.specs.KeyText.{key_text}
use Rattle.wgr_text.specs.Prefix.{PrefixValue}
use Rattle.wgr_text.specs.PrefixText.{canonical_text}
use Rattle.wgr_text.specs.declared.key.Key.{Key}

abbrev pub count : ℕ → Data
count n = number (unsigned n)

abbrev pub array_of : List Data → Data
array_of ds = array (items_of ds)

abbrev pub key_data : Key → Data
key_data key = string (key_text key.0)

abbrev pub prefix_data : PrefixValue → Data
prefix_data p = string (canonical_text p)
