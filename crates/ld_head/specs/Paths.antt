-- The paths, which are the project's own. A target is compared as it stands, with its query.
use Rattle.std.specs.Prelude.{ℕ, List, Option, Some, None, if◌then◌else◌, codes, bytes_eq}
use Rattle.ld_head.specs.declared.path.Path.{Path}
use Rattle.ld_head.specs.declared.path.Path.TheVariants.{Expand, Compact, Flatten, Revise, Evict}

-- the path that the target is
abbrev pub path_of : List ℕ → Option Path
path_of target =
    if bytes_eq target (codes "/expand") then Some Expand
    else (if bytes_eq target (codes "/compact") then Some Compact
    else (if bytes_eq target (codes "/flatten") then Some Flatten
    else (if bytes_eq target (codes "/revise") then Some Revise
    else (if bytes_eq target (codes "/evict") then Some Evict
    else None))))
