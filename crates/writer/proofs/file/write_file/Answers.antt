-- `writer::file::write_file` meets its contract: the sections, each into its own part. Assumes nothing.
use Rattle.writer.specs.Shown.{lent_parts}
use Rattle.writer.proofs.Sizes.{as_written_lem}
use Rattle.writer.proofs.file.write_file.Goals as goal

pub returns : goal.returns
returns c =
    rw (c.write_head.ensures, c.write_roots.ensures, c.write_blocks.ensures, c.write_nodes.ensures, c.write_map.ensures)
    (as_written_lem c.args.f (lent_parts c.args.parts.now) _ c.requires.fitting)
