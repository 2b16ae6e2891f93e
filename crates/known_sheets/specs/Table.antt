-- The sheets with known ends, rules 24.1 to 24.8, 24.10 to 24.13, each under the second part of its number, and more check
-- sheets behind them: bytes in, and bytes or a state's sets out.
use Rattle.std.specs.Prelude.{List, [], ◌∷◌}
use Rattle.bit_set.specs.BitSet.{empty_set, inserted}
use Rattle.known_sheets.specs.Known.{Known, event_sheet, check_sheet, no_use_sets, conflict_sets}

abbrev pub table : List Known
table =
    -- 1
    event_sheet "temp\tl1\t1\tl1:2\nperm\t1\nhead\t0\t1\nvar\tf\ts\th\t0\nvar\tf\ts\th\t1\n" "at\tx1\nget_variable\ty1\t2\nat\ty1\nend\t3\t1\n"
    -- 2
    ∷ no_use_sets "temp\tl1\t1\tl1:2\ntemp\tl1\t1\tl1:2\nsets\n" (empty_set ∷ inserted empty_set 2 ∷ [])
    ∷ event_sheet "temp\tl1\t1\tl1:2\ntemp\tl1\t1\tl1:2\nsets\nargs\t2\nvar\tq\td\tl1\t1\n" "set_variable\tx2\nat\tx2\nend\t3\t0\n"
    -- 3
    ∷ conflict_sets "temp\tl1\t1\tl1:1,l1:4,l1:5\nsets\n" (inserted empty_set 2 ∷ [])
    -- 4
    ∷ event_sheet "temp\tl1\t1\tl1:1\nargs\t2\nvar\tq\ts\tl1\t0\n" "put_variable\tx1\t1\nat\tx1\nend\t3\t0\n"
    -- 5
    ∷ event_sheet "temp\tl1\t3\t-\ntemp\tl1\t3\t-\nhead\t0\nvar\tf\ts\th\t0\nargs\t2\nvar\tq\ts\tl1\t1\n" "at\tx1\nget_variable\tx3\t1\nput_variable\tx4\t1\nat\tx4\nend\t3\t0\n"
    -- 6
    ∷ event_sheet "perm\t1\nperm\t1\nargs\t1\nvar\tq\ts\tm1\t0\nfree\t1\t0\nargs\t1\nvar\tq\ts\tm1\t1\n" "put_variable\ty1\t1\nat\ty1\nput_variable\ty2\t1\nat\ty2\nend\t2\t2\n"
    ∷ event_sheet "perm\t1\nperm\t1\nargs\t1\nvar\tq\ts\tm1\t0\nfree\t1\t0\nargs\t1\nvar\tq\ts\tm2\t1\n" "put_variable\ty1\t1\nat\ty1\nput_variable\ty1\t1\nat\ty1\nend\t2\t1\n"
    -- 7
    ∷ event_sheet "perm\t3\nargs\t1\nvar\tq\ts\tm1\t0\ntail\t1\nargs\t1\nvar\tq\ts\tl1\t0\nargs\t1\nvar\tq\ts\tl1\t0\n" "put_variable\ty1\t1\nat\ty1\nput_unsafe_value\ty1\t1\nat\ty1\nput_value\ty1\t1\nat\ty1\nend\t2\t1\n"
    -- 8
    ∷ event_sheet "perm\t1\ntemp\tl1\t1\tl1:1\nargs\t2\nvar\tq\ts\tl1\t0\nvar\tq\ts\tl1\t1\n" "put_variable\ty1\t1\nat\ty1\nput_variable\tx3\t2\nat\tx3\nend\t3\t1\n"
    -- 10
    ∷ check_sheet "h\t1\t0\nh\t2\t0\nget_value\tx1\t2\n" "accepted\n"
    ∷ check_sheet "h\t1\t0\nh\t2\t0\nget_value\tx2\t1\n" "accepted\n"
    ∷ check_sheet "h\t1\t0\nh\t2\t0\n" "rejected\n"
    -- 11
    ∷ check_sheet "h\t1\t0\ng\t1\t1\nput_variable\tx4\t1\ng\t2\t0\nput_value\tx1\t2\ncall\n" "rejected\n"
    ∷ check_sheet "h\t1\t0\ng\t1\t1\nget_variable\tx3\t1\nput_variable\tx4\t1\ng\t2\t0\nput_value\tx3\t2\ncall\n" "accepted\n"
    -- 12
    ∷ check_sheet "g\t1\t0\nput_variable\tx5\t1\ncall\ng\t1\t0\nput_value\tx5\t1\ncall\n" "rejected\n"
    ∷ check_sheet "g\t1\t0\nput_variable\ty1\t1\ncall\ng\t1\t0\nput_value\ty1\t1\ncall\n" "accepted\n"
    -- 13
    ∷ event_sheet "" "end\t1\t0\n"
    ∷ check_sheet "" "accepted\n"
    -- a subterm of the head is read, or is not
    ∷ check_sheet "hd\t0\nunify_variable\tx3\n" "accepted\n"
    ∷ check_sheet "hd\t0\n" "rejected\n"
    -- x1 is written over, and its argument is wanted once more: compared with its copy, or with itself
    ∷ check_sheet "h\t1\t0\nget_variable\tx3\t1\nhd\t1\nunify_variable\tx1\nh\t1\t1\nget_value\tx1\t3\n" "accepted\n"
    ∷ check_sheet "h\t1\t0\nget_variable\tx3\t1\nhd\t1\nunify_variable\tx1\nh\t1\t1\nget_value\tx1\t1\n" "rejected\n"
    -- a subterm of a goal is its variable's value, or another
    ∷ check_sheet "h\t1\t0\ngd\t0\nset_value\tx1\ncall\n" "accepted\n"
    ∷ check_sheet "h\t1\t0\ngd\t0\nset_value\tx2\ncall\n" "rejected\n"
    -- argument 2 stays until its call, or is written over
    ∷ check_sheet "h\t1\t0\ng\t2\t0\nput_value\tx1\t2\ng\t1\t1\nput_variable\tx3\t1\ncall\n" "accepted\n"
    ∷ check_sheet "h\t1\t0\ng\t2\t0\nput_value\tx1\t2\ng\t1\t1\nput_variable\tx2\t1\ncall\n" "rejected\n"
    -- a variable leaves x2 for x5, or for x1, where an argument is loaded already: docs/FOUND.md, A
    ∷ check_sheet "h\t2\t0\ng\t1\t1\nput_variable\tx3\t1\ng\t2\t2\nget_variable\tx5\t2\nput_variable\tx4\t2\ncall\n" "accepted\n"
    ∷ check_sheet "h\t2\t0\ng\t1\t1\nput_variable\tx3\t1\ng\t2\t2\nget_variable\tx1\t2\nput_variable\tx4\t2\ncall\n" "rejected\n"
    -- an argument is read before its call spoils it; a call with no goal steps has spoilt it
    ∷ check_sheet "h\t1\t0\ng\t1\t0\ncall\n" "accepted\n"
    ∷ check_sheet "h\t1\t0\ncall\ng\t1\t0\ncall\n" "rejected\n"
    -- an argument is wanted again after its call: from its register, from another, or from a slot after two calls
    ∷ check_sheet "h\t1\t0\ng\t1\t0\ncall\ng\t1\t0\ncall\n" "rejected\n"
    ∷ check_sheet "h\t1\t0\ng\t1\t0\nget_variable\tx5\t1\ncall\ng\t1\t0\nput_value\tx5\t1\ncall\n" "rejected\n"
    ∷ check_sheet "h\t1\t0\ng\t1\t0\nget_variable\ty1\t1\ncall\ncall\ng\t1\t0\nput_value\ty1\t1\ncall\n" "accepted\n"
    -- a variable first seen in the head is wanted after a call, from its slot, or from a slot that never held it
    ∷ check_sheet "h\t1\t0\nget_variable\ty1\t1\ncall\ng\t1\t0\nput_value\ty1\t1\ncall\n" "accepted\n"
    ∷ check_sheet "h\t1\t0\nget_variable\ty1\t1\ncall\ng\t1\t0\nput_value\ty2\t1\ncall\n" "rejected\n"
    -- what a register got after one call is spoilt by the next, also where the goal has another argument
    ∷ check_sheet "g\t1\t0\nput_variable\ty1\t1\ncall\ng\t1\t0\nput_value\ty1\t1\ncall\ng\t1\t0\ncall\n" "rejected\n"
    ∷ check_sheet "g\t1\t0\nput_variable\ty1\t1\ng\t2\t1\nput_variable\ty2\t2\ncall\ng\t1\t0\nput_value\ty1\t1\ng\t2\t1\ncall\n" "rejected\n"
    -- the last register and the last slot
    ∷ check_sheet "g\t1\t0\nput_variable\tx63\t1\ncall\ng\t1\t0\nput_value\tx63\t1\ncall\n" "rejected\n"
    ∷ check_sheet "g\t1\t0\nput_variable\ty63\t1\ncall\ng\t1\t0\nput_value\ty63\t1\ncall\n" "accepted\n"
    -- a subterm after a call, from a register or from a slot
    ∷ check_sheet "g\t1\t0\nput_variable\tx5\t1\ncall\ngd\t0\nset_value\tx5\ncall\n" "rejected\n"
    ∷ check_sheet "g\t1\t0\nput_variable\ty1\t1\ncall\ngd\t0\nset_value\ty1\ncall\n" "accepted\n"
    ∷ []
