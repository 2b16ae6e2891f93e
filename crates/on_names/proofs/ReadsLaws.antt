-- Laws of what the calls read: a goal's arguments, each register with the name that it has to hold, become claims.
use Prim.Native.Nat.{ℕ, suc, ◌+◌, ◌*◌, ◌≤◌}
use Rattle.std.specs.Prelude.{◌≡◌, refl, true, length}
use Rattle.std.proofs.Math.Path.{sym, ap, ap₂}
use Rattle.std.proofs.Common.{◌∙◌, length-append}
use mathlib.Core.List.{List, [], ◌∷◌, ◌++◌, map, append-nil, append_assoc}
use native.Mathlib.Omega.{arith}
use Rattle.sizes.specs.Sizes.{steps, is_register}
use Rattle.registers.specs.declared.RegType.TheVariants.{Temp}
use Rattle.machine.specs.Machine.{Contents}
use Rattle.symbolic.specs.Names.{pair_cells}
use Rattle.classes.specs.Classes.{pairs_of}
use Rattle.symbolic.specs.declared.Pairs.{Pairs}
use Rattle.symbolic.specs.Symbolic.{pairs, pushed, listed, held, claimed}
use Rattle.on_names.specs.OnNames.{first, second}
use Rattle.on_names.proofs.PairsLaws.{map-append, snoc_map, Table, table_more, table_exact, table_none, listed-pushed, table-pushed}
use Rattle.on_names.proofs.ActsLaws.{Places}

-- ---- The arguments of a goal

abbrev pub register : ℕ × ℕ → ℕ
register p = p.0

-- every number in front is a register's
abbrev pub AllRegisters : List (ℕ × ℕ) → Type 0
AllRegisters [] = Unit {0}
AllRegisters ((k, name) ∷ arguments) = (is_register k ≡ true) × AllRegisters arguments

registers_snoc :
    (arguments : List (ℕ × ℕ)) (k name : ℕ) → AllRegisters arguments → is_register k ≡ true
    → AllRegisters (arguments ++ (k, name) ∷ [])
registers_snoc [] k name h e = (e, tt)
registers_snoc ((q, other) ∷ arguments) k name h e = (h.0, registers_snoc arguments k name h.1 e)

-- ---- Claims

-- what an argument holds, and what it has to hold
abbrev pub claim : List ℕ → ℕ × ℕ → ℕ × ℕ
claim places p = (held places (Temp p.0), p.1)

module _ (places : List ℕ) where
  claimed-listed :
      (arguments : List (ℕ × ℕ)) (most : ℕ) (claims : Pairs) → Table most claims → 2 * (most + length arguments) ≤ pair_cells
      → Table (most + length arguments) (claimed places claims arguments)
      × (listed (claimed places claims arguments) ≡ listed claims ++ map (claim places) arguments)
  unfolding claimed
  claimed-listed [] most claims t room = (table_more (most + 0) (omega arith) t, sym (append-nil (listed claims)))
  claimed-listed ((k, name) ∷ arguments) most claims t room =
      let here = held places (Temp k) in
      let space : 2 * most + 2 ≤ pair_cells = omega arith in
      let more = table-pushed most claims here name t space in
      let rest = claimed-listed arguments (suc most) (pushed claims here name) more (omega arith) in (
        table_more (most + suc (length arguments)) (omega arith) rest.0,
        rest.1
            ∙ ap (λ (l : List (ℕ × ℕ)). l ++ map (claim places) arguments) (listed-pushed most claims here name t space)
            ∙ append_assoc (listed claims) ((here, name) ∷ []) (map (claim places) arguments),
      )

module _ (ρ : ℕ → ℕ) (places : List ℕ) (contents : Contents) (p : Places ρ places contents) where
  read_claims :
      (arguments : List (ℕ × ℕ)) → AllRegisters arguments
      → map (λ k. contents (Temp k)) (map register arguments) ≡ map (first ρ) (map (claim places) arguments)
  read_claims [] fit = refl
  read_claims ((k, name) ∷ arguments) fit =
      let here = p.holds (Temp k) fit.0 in
      let rest = read_claims arguments fit.1 in
      λ i. here i ∷ rest i

second_claims :
    (ρ : ℕ → ℕ) (places : List ℕ) (arguments : List (ℕ × ℕ))
    → map (second ρ) arguments ≡ map (second ρ) (map (claim places) arguments)
second_claims ρ places [] = refl
second_claims ρ places ((k, name) ∷ arguments) = ap (λ (l : List ℕ). ρ name ∷ l) (second_claims ρ places arguments)

both-lists :
    (f : ℕ × ℕ → ℕ) (whole front back : List (ℕ × ℕ)) → whole ≡ front ++ back → map f front ++ map f back ≡ map f whole
both-lists f whole front back e = sym (map-append f front back) ∙ sym (ap (map f) e)

-- ---- A goal and the calls so far

pub record Reads (ρ : ℕ → ℕ) (step : ℕ) (goal claims : Pairs) (ks names read arguments : List ℕ) : Type 0 where
  pub goal_table : Table step goal
  pub claims_table : Table step claims
  pub few : length (listed goal) + length (listed claims) ≤ step
  pub fit : AllRegisters (listed goal)
  pub goal_registers : ks ≡ map register (listed goal)
  pub goal_names : names ≡ map (second ρ) (listed goal)
  pub claims_read : read ≡ map (first ρ) (listed claims)
  pub claims_wanted : arguments ≡ map (second ρ) (listed claims)

module _
    (ρ : ℕ → ℕ)
    (step next : ℕ)
    (follows : next ≡ suc step)
    (bounded : next ≤ steps)
    (goal claims : Pairs)
    (ks names read arguments : List ℕ)
    (r : Reads ρ step goal claims ks names read arguments)
  where
    -- a step that neither has an argument nor calls
    pub reads_same : Reads ρ next goal claims ks (names ++ []) read arguments
    reads_same =
        record {
          goal_table = table_more next (omega arith) r.goal_table;
          claims_table = table_more next (omega arith) r.claims_table;
          few = omega (arith, r.few);
          fit = r.fit;
          goal_registers = r.goal_registers;
          goal_names = append-nil names ∙ r.goal_names;
          claims_read = r.claims_read;
          claims_wanted = r.claims_wanted;
        }

    -- one argument more
    pub reads_argument :
        (k name n : ℕ) → is_register k ≡ true → n ≡ ρ name
        → Reads ρ next (pushed goal k name) claims (ks ++ k ∷ []) (names ++ n ∷ []) read arguments
    reads_argument k name n e same =
        let room : 2 * step + 2 ≤ pair_cells = omega arith in
        let more = listed-pushed step goal k name r.goal_table room in
        let longer = ap length more ∙ length-append (listed goal) ((k, name) ∷ []) in
        record {
          goal_table = table_more next (omega arith) (table-pushed step goal k name r.goal_table room);
          claims_table = table_more next (omega arith) r.claims_table;
          few = omega (arith, r.few, longer);
          fit = rw more (registers_snoc (listed goal) k name r.fit e);
          goal_registers = snoc_map register (listed goal) (k, name) ks k r.goal_registers refl ∙ sym (ap (map register) more);
          goal_names = snoc_map (second ρ) (listed goal) (k, name) names n r.goal_names same ∙ sym (ap (map (second ρ)) more);
          claims_read = r.claims_read;
          claims_wanted = r.claims_wanted;
        }

    -- the goal is called
    pub reads_call :
        (places : List ℕ) (contents : Contents) → Places ρ places contents
        → Reads ρ next (pairs goal.cells 0) (claimed places claims (listed goal)) [] [] (read ++ map (λ k. contents (Temp k)) ks) (arguments ++ names)
    unfolding listed pairs_of
    reads_call places contents p =
        let exact = table_exact r.claims_table in
        let now = claimed-listed places (listed goal) (length (listed claims)) claims exact (omega (arith, r.few)) in
        let read-now = read_claims ρ places contents p (listed goal) r.fit in
        let whole = listed (claimed places claims (listed goal)) in
        let new = map (claim places) (listed goal) in
        record {
          goal_table = table_more next (omega arith) (table_none goal.cells r.goal_table.size);
          claims_table = table_more next (omega (arith, r.few)) now.0;
          few = omega (arith, r.few, now.0.few);
          fit = tt;
          goal_registers = refl;
          goal_names = refl;
          claims_read =
              ap₂ (λ (a b : List ℕ). a ++ b) r.claims_read (ap (map (λ k. contents (Temp k))) r.goal_registers ∙ read-now)
              ∙ both-lists (first ρ) whole (listed claims) new now.1;
          claims_wanted =
              ap₂ (λ (a b : List ℕ). a ++ b) r.claims_wanted (r.goal_names ∙ second_claims ρ places (listed goal))
              ∙ both-lists (second ρ) whole (listed claims) new now.1;
        }
