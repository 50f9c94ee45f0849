-- `matrix_mul::rows::next_four` meets its contract: each of the four rows is taken from where the one before it leads.
use Rattle.matrix_mul.proofs.rows.next_four.Goals as goal

pub next_row-a-requires : goal.next_row-a-requires
next_row-a-requires c = c.requires

pub next_row-b-requires : goal.next_row-b-requires
next_row-b-requires c = (c.next_row-a.ensures.within, c.requires.1)

pub next_row-c-requires : goal.next_row-c-requires
next_row-c-requires c = (c.next_row-b.ensures.within, c.requires.1)

pub next_row-d-requires : goal.next_row-d-requires
next_row-d-requires c = (c.next_row-c.ensures.within, c.requires.1)

pub returns : goal.returns
returns c =
    record {
      first = c.next_row-a.ensures;
      second = c.next_row-b.ensures;
      third = c.next_row-c.ensures;
      fourth = c.next_row-d.ensures;
    }
