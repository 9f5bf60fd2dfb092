-- `walk_tree` ends as the definition's walk does. Assumes nothing.
use Rattle.definition.proofs.Slices.{are_bytes}
use Rattle.compiler.proofs.Walked.{names_stand, walk_fine, walk_ended}
use Rattle.compiler.proofs.translate.walk_tree.Goals as goal

pub start-requires-clause-has_names : goal.start-requires-clause-has_names
start-requires-clause-has_names c = names_stand c.requires.checked (are_bytes c.slice_known-1.given)

pub compile_tree-requires-clause-fine : goal.compile_tree-requires-clause-fine
compile_tree-requires-clause-fine c =
    walk_fine c.requires.checked (are_bytes c.slice_known-1.given) c.start.ensures.value c.start.ensures.starts c.requires.first c.start.auto.table

pub returns-clause-ended : goal.returns-clause-ended
returns-clause-ended c =
    walk_ended c.requires.checked (are_bytes c.slice_known-1.given) c.start.ensures.value c.start.ensures.starts c.requires.first _ c.compile_tree.ensures.walks
