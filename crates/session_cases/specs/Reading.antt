-- Which lines of the input begin a case.
use Rattle.std.specs.Prelude.{ℕ, Bool, List, nat_eq, codes}
use Rattle.std.specs.List.{starts_with}

abbrev pub begins_case : List ℕ → Bool
begins_case line = starts_with nat_eq line (codes "case: ")
