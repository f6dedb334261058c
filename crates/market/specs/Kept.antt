-- What a session keeps of its day: it lets a new number be free, and the orders be counted.
use Rattle.std.specs.Prelude.{◌≡◌, ℕ, ◌+◌, ◌<◌, ◌≤◌}
use Rattle.tables.specs.Listing.{times}
use Rattle.book.specs.Day.{Day}
use Rattle.book.specs.Rows.{order_count}

-- no number held is above the last arrival given, and there are no more orders than arrivals
pub record Kept (day : Day) : Type 0 where
  pub most : day.tally ≤ 1000000
  pub fewer : order_count day.table ≤ day.tally
  pub known : (n : ℕ) → day.tally < n → times n day.table.book.buys + times n day.table.book.sells ≡ 0
