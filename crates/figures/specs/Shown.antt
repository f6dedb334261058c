-- What of the rules' answers is compared.
use Rattle.std.specs.Prelude.{ℕ, Option}
use Rattle.std.specs.Option.{option_map}
use Rattle.rules.specs.declared.candidate.Candidate.{Candidate}
use Rattle.figures.specs.declared.shown.Limits.{Limits}
use Rattle.figures.specs.declared.shown.Struck.{Struck}

abbrev pub limits : ℕ × ℕ → Limits
limits band = record { lowest = band.0; highest = band.1 }

abbrev pub struck : Candidate → Struck
struck c = record { price = c.price; volume = c.volume }

abbrev pub found : Option Candidate → Option Struck
found c = option_map struck c
