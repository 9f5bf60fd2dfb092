-- A function that is a `let` value takes its name.
use Rattle.std.specs.Prelude.{eqb}
use Rattle.definition.specs.Basic.{Bytes, pick}
use Rattle.definition.specs.Tag.{tag_function, tag_name}
use Rattle.definition.specs.Node.{Node, leaf, node, Nodes, none, ◌then◌}

-- a function's own name field, in place of the one it has
abbrev pub renamed : Bytes → Nodes → Nodes
renamed n none = none
renamed n (x then xs) = leaf tag_name n then xs

-- a function that is a `let` value takes its name
abbrev pub named : Bytes → Node → Node
named n (leaf t c) = leaf t c
named n (node t xs) = pick (eqb t tag_function) (node t (renamed n xs)) (node t xs)
