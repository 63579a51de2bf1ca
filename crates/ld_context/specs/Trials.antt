-- What is kept of a context while a scoped context is processed on it, and how the context becomes as it was.
use Rattle.std.specs.Prelude.{ℕ, List, Option, Some, None, true, not, ◌&&◌, if◌then◌else◌, fold, codes}
use Rattle.ld_tree.specs.Names.{Sorted}
use Rattle.ld_tree.specs.Maps.{put, take_out}
use Rattle.ld_tree.specs.declared.tree.Tree.{Tree}
use Rattle.ld_tree.specs.declared.tree.Tree.TheOpen.{Tree-F}
use Rattle.ld_rec.specs.declared.def.Def.{Def}
use Rattle.ld_rec.specs.Processing.{is_propagated}
use Rattle.ld_rec.specs.Records.{Context, def_of}
use Rattle.ld_rec.specs.Words.{has}
use Rattle.ld_context.specs.declared.trial.Former.{Former}

-- the entries of a map without an import, that is propagated
abbrev pub own_entries : Tree-F Tree → Option (Sorted Tree)
own_entries (Tree-F.Map entries) = if not (has entries (codes "@import")) && is_propagated true (Tree-F.Map entries) then Some entries else None
own_entries _ = None

-- what stands under the name of an entry
abbrev pub former_entry : Context → List ℕ × Tree → List ℕ × Option Def
former_entry context e = (e.0, def_of context e.0)

abbrev pub with_optional : Sorted Def → List ℕ → Option Def → Sorted Def
with_optional terms name (Some def) = put terms name def
with_optional terms name None = take_out terms name

abbrev pub with_former : Sorted Def → List ℕ × Option Def → Sorted Def
with_former terms e = with_optional terms e.0 e.1

abbrev pub undone : Former → Context → Context
undone former context = record context { own = record context.own { base = former.base; vocab = former.vocab; language = former.language; terms = fold with_former context.own.terms former.defs.items } }
