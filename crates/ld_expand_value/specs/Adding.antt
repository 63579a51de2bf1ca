-- Items that are added behind others, or the refusal of a language map.
use Rattle.std.specs.Prelude.{Bool, if◌then◌else◌, List, ◌++◌, Result, Ok, Err}
use Rattle.ld_codes.specs.declared.code.Code.TheVariants.{InvalidLanguageMapValue}
use Rattle.ld_tree.specs.declared.tree.Tree.{Tree}
use Rattle.ld_rec.specs.declared.stop.Stop.{Stop}
use Rattle.ld_rec.specs.declared.stop.Stop.TheVariants as stop

abbrev pub added : Bool → List Tree → List Tree → Result (List Tree) Stop
added may items more = if may then Ok (items ++ more) else Err (stop.Code InvalidLanguageMapValue)
