mod Restanding
