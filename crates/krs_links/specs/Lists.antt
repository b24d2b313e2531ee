-- The two lists that a `Links` keeps.
use Rattle.std.specs.Prelude.{◌≡◌, ◌≤◌, length, List, ℕ}
use Rattle.krs_links.specs.Links.{IsUnique, LinkList, nested as nested_links, serials}

-- the links, and the serials of those to keyrings
pub record AreLists (links : LinkList) (rings : List ℕ) : Type 0 where
  pub bound : length links ≤ 65535
  pub unique : IsUnique links
  pub nested : rings ≡ serials (nested_links links)
