-- What a check sheet asks, on names alone. A choice gives each name a value.
use Rattle.std.specs.Prelude.{ℕ, ◌≡◌, ◌↔◌, List, map}
use Rattle.classes.specs.Forces.{Holds}
use Rattle.steps.specs.declared.CheckLine.{CheckLine}
use Rattle.steps.specs.Order.{fresh_order}
use Rattle.symbolic.specs.declared.Symbols.{Symbols}
use Rattle.symbolic.specs.Symbolic.{listed, fresh_symbols, carried_all}

-- a sheet's run on names
abbrev pub symbols_of : List CheckLine → Symbols
symbols_of lines = carried_all fresh_order fresh_symbols lines

-- ---- What a choice makes of pairs

-- of two names
abbrev pub both : (ℕ → ℕ) → ℕ × ℕ → ℕ × ℕ
both ρ p = (ρ p.0, ρ p.1)

-- of a step and a name
abbrev pub named : (ℕ → ℕ) → ℕ × ℕ → ℕ × ℕ
named ρ p = (p.0, ρ p.1)

-- of the first, and of the second, of two names
abbrev pub first : (ℕ → ℕ) → ℕ × ℕ → ℕ
first ρ p = ρ p.0

abbrev pub second : (ℕ → ℕ) → ℕ × ℕ → ℕ
second ρ p = ρ p.1

-- ---- When the instructions are right

-- rule 21.5 on names, for one choice of their values
pub record RightUnder (ρ : ℕ → ℕ) (s : Symbols) : Type 0 where
  pub equalities : Holds ρ (listed s.doing.demands) ↔ Holds ρ (listed s.wanting.wants)
  pub arguments : Holds ρ (listed s.doing.demands) → map (first ρ) (listed s.claims) ≡ map (second ρ) (listed s.claims)
  pub subterms :
      Holds ρ (listed s.doing.demands) → map (named ρ) (listed s.doing.made) ≡ map (named ρ) (listed s.wanting.due)

-- for every choice
abbrev pub RightOnNames : Symbols → Type 0
RightOnNames s = (ρ : ℕ → ℕ) → RightUnder ρ s
