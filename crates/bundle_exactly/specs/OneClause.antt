-- A bundle of one clause, and the event sheet of its lines: rules 18.2, 18.4.
use Rattle.std.specs.Prelude.{ℕ}
use mathlib.Core.List.{List, [], ◌∷◌}
use Rattle.event_sheets.specs.EventSheets.{Ran, sheet_ran}
use Rattle.bundles.specs.Bundles.{sheet_of}
use Rattle.bundle_exactly.specs.Exactly.{Body, bundle_of}

module _ (body : Body) where
  -- the event sheet of a clause's lines
  abbrev pub sheet : List ℕ
  sheet = sheet_of body

  abbrev pub run : Ran
  run = sheet_ran sheet

  -- a bundle of one clause
  abbrev pub bundle : List ℕ
  bundle = bundle_of (body ∷ [])
