-- The links of a keyring whose table may not have been made.
use Rattle.std.specs.{Prelude.{[], Box, None, Option, Some}, declared.alloc.Global.Global}
use Rattle.krs_links.specs.{Links.LinkList, declared.table.LinkTable.LinkTable}

-- those of the table; none where there is no table
abbrev pub links_kept : Option (Box LinkTable Global) → LinkList
links_kept None = []
links_kept (Some table) = table.value
